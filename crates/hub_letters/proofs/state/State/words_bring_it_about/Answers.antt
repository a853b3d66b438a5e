use Rattle.hub_letters.proofs.state.State.words_bring_it_about.Goals as goal
use Rattle.hub_letters.proofs.Told.{is_lawful, brings, is_empty}

pub returns-clause-lawful : goal.returns-clause-lawful
returns-clause-lawful c = is_lawful

pub returns-clause-holds : goal.returns-clause-holds
returns-clause-holds c = brings

pub returns-clause-empty : goal.returns-clause-empty
returns-clause-empty c = is_empty

use Rattle.hub_views.proofs.ServiceStates.{is_of_stage, is_told}
use Rattle.hub_views.proofs.states.state_words_are_true.Goals as goal

pub returns-clause-stage : goal.returns-clause-stage
returns-clause-stage c = is_of_stage

pub returns-clause-told : goal.returns-clause-told
returns-clause-told c = is_told

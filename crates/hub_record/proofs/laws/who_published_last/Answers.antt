use Rattle.hub_record.proofs.Last.{last_at_end, none_is_last, last_or_published}
use Rattle.hub_record.proofs.laws.who_published_last.Goals as goal

pub returns-clause-end : goal.returns-clause-end
returns-clause-end c = last_at_end

pub returns-clause-none : goal.returns-clause-none
returns-clause-none c = none_is_last

pub returns-clause-call : goal.returns-clause-call
returns-clause-call c = last_or_published

use Rattle.hub_record.proofs.Evicted.{stays_out, goes_on_saying}
use Rattle.hub_record.proofs.laws.evicted_stays_evicted.Goals as goal

pub returns-clause-still : goal.returns-clause-still
returns-clause-still c = stays_out

pub returns-clause-says : goal.returns-clause-says
returns-clause-says c = goes_on_saying

use Rattle.hub_fifodir.proofs.RuleLaws.{record_is_history}
use Rattle.hub_fifodir.proofs.laws.record_is_history.Goals as goal

pub returns : goal.returns
returns c = record_is_history

use Rattle.hub_fifodir.proofs.RuleLaws.{base_is_behind}
use Rattle.hub_fifodir.proofs.laws.base_is_behind.Goals as goal

pub returns : goal.returns
returns c = base_is_behind

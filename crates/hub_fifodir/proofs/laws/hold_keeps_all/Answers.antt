use Rattle.hub_fifodir.proofs.RuleLaws.{hold_keeps_all}
use Rattle.hub_fifodir.proofs.laws.hold_keeps_all.Goals as goal

pub returns : goal.returns
returns c = hold_keeps_all

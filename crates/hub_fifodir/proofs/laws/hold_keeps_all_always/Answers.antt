use Rattle.hub_fifodir.proofs.Moments.{hold_keeps_all_always}
use Rattle.hub_fifodir.proofs.laws.hold_keeps_all_always.Goals as goal

pub returns : goal.returns
returns c = hold_keeps_all_always

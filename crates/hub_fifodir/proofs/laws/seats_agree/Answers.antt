use Rattle.hub_fifodir.proofs.RuleLaws.{seats_agree}
use Rattle.hub_fifodir.proofs.laws.seats_agree.Goals as goal

pub returns : goal.returns
returns c = seats_agree

use Rattle.hub_fifodir.proofs.RuleLaws.{tickets_have_cursors}
use Rattle.hub_fifodir.proofs.laws.tickets_have_cursors.Goals as goal

pub returns : goal.returns
returns c = tickets_have_cursors

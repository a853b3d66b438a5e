use Rattle.hub_fifodir.proofs.RuleLaws.{cursors_have_tickets}
use Rattle.hub_fifodir.proofs.laws.cursors_have_tickets.Goals as goal

pub returns : goal.returns
returns c = cursors_have_tickets

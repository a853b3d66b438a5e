use Rattle.hub_fifodir.proofs.RuleLaws.{tickets_differ}
use Rattle.hub_fifodir.proofs.laws.tickets_differ.Goals as goal

pub returns : goal.returns
returns c = tickets_differ

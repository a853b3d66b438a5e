use Rattle.hub_fifodir.proofs.RuleLaws.{active_have_publishers}
use Rattle.hub_fifodir.proofs.laws.active_have_publishers.Goals as goal

pub returns : goal.returns
returns c = active_have_publishers

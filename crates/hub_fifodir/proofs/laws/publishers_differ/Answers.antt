use Rattle.hub_fifodir.proofs.RuleLaws.{publishers_differ}
use Rattle.hub_fifodir.proofs.laws.publishers_differ.Goals as goal

pub returns : goal.returns
returns c = publishers_differ

use Rattle.hub_ask.proofs.Tellings.{told}
use Rattle.hub_ask.proofs.outcome.Outcome.of.Goals as goal

pub returns : goal.returns
returns c = told c.args.line.now c.in_ok-read.read c.outcome_of.result c.in_ok-read.ensures c.outcome_of.ensures

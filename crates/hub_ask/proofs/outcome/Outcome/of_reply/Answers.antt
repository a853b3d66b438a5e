use Rattle.std.proofs.Common.{◌∙◌}
use Rattle.hub_ask.proofs.Tellings.{same_outcome}
use Rattle.hub_ask.proofs.outcome.Outcome.of_reply.Goals as goal

pub returns : goal.returns
returns c = λ it shows. c.outcome_of.ensures ∙ same_outcome c.args.shown it shows

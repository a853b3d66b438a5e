use Rattle.std.proofs.Common.{◌∙◌, sym}
use Rattle.hub_ask.proofs.Tellings.{told_of_wait, told_no_wait}
use Rattle.hub_ask.proofs.outcome.Outcome.of_wait.Goals as goal

pub returns-then-replies_to_wait : goal.returns-then-replies_to_wait
returns-then-replies_to_wait c =
    told_of_wait c.args.services c.args.line.now c.in_ok-read.read c.outcome_of.result c.in_ok-read.ensures (sym c.replies_to_wait.ensures ∙ c.if-replies_to_wait.true) c.outcome_of.ensures

pub returns-else-replies_to_wait : goal.returns-else-replies_to_wait
returns-else-replies_to_wait c = told_no_wait c.args.services c.args.line.now c.in_ok-read.read c.in_ok-read.ensures (sym c.replies_to_wait.ensures ∙ c.if-replies_to_wait.false)

use Rattle.hub_protocol.specs.declared.replies.BorrowedReply.TheVariants as shown
use Rattle.hub_protocol.specs.Spelling.{fields_of}
use Rattle.hub_protocol.proofs.ReplyReadings.{counts_said, no_counts}
use Rattle.hub_protocol.proofs.replies.yes_of.Goals as goal

pub returns-then-are_counts : goal.returns-then-are_counts
returns-then-are_counts c = counts_said c.args.text.now (shown.Yes c.args.text) c.if-are_counts.ensures (λ numbers e. e)

pub returns-else-are_counts : goal.returns-else-are_counts
returns-else-are_counts c = no_counts (fields_of c.args.text.now) c.if-are_counts.ensures

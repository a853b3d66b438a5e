use Rattle.std.proofs.Common.{◌∙◌, sym}
use Rattle.hub_protocol.proofs.ReplyReadings.{some_head}
use Rattle.hub_protocol.proofs.replies.reply_with.Goals as goal

pub returns-in_err-head : goal.returns-in_err-head
returns-in_err-head c = rw c.from_residual.ensures (λ reply h w e. let (head, is) = some_head reply in c.in_err-head.ensures head (sym w ∙ is))

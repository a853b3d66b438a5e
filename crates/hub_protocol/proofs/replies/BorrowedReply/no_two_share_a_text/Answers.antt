use Rattle.hub_protocol.proofs.SameReplies.{same_text}
use Rattle.hub_protocol.proofs.replies.BorrowedReply.no_two_share_a_text.Goals as goal

pub returns : goal.returns
returns c = λ one other h k e. same_text one other h.sound k.sound e

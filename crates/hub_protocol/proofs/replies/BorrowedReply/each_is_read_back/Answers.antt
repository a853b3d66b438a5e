use Rattle.hub_protocol.proofs.ReplyReadings.{read_back}
use Rattle.hub_protocol.proofs.replies.BorrowedReply.each_is_read_back.Goals as goal

pub returns : goal.returns
returns c = read_back

use Rattle.std.proofs.Common.{refl}
use Rattle.hub_requests.specs.declared.reply.Reply.TheVariants.{Got}
use Rattle.hub_protocol.proofs.replies.read_got.Goals as goal

pub returns : goal.returns
returns c =
    let is = c.in_ok-letters.ensures in
    record { reply = Got c.in_ok-letters.letters.now; sound = is.0; head = refl; behind = is.1; shows = refl }

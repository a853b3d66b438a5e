use Rattle.std.proofs.Common.{refl}
use Rattle.hub_requests.specs.declared.reply.Reply.TheVariants.{No}
use Rattle.hub_protocol.proofs.replies.read_no.Goals as goal

pub returns : goal.returns
returns c =
    let is = c.in_ok-refusal.ensures in
    record { reply = No c.in_ok-refusal.refusal; sound = is.0; head = refl; behind = is.1; shows = refl }

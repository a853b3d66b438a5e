use Rattle.std.proofs.Common.{refl}
use Rattle.hub_requests.specs.declared.reply.Reply.TheVariants.{About}
use Rattle.hub_protocol.specs.Lines.{pieces_of}
use Rattle.hub_protocol.proofs.ReplyReadings.{no_about}
use Rattle.hub_protocol.proofs.replies.read_about.Goals as goal

pub returns-in_err-about : goal.returns-in_err-about
returns-in_err-about c = rw c.from_residual.ensures (no_about c.args.kind (pieces_of c.args.rest) c.in_err-about.ensures)

pub returns : goal.returns
returns c =
    let (sound, is) = c.in_ok-about.ensures in
    record { reply = About c.in_ok-about.about; sound = sound; head = refl; behind = is; shows = refl }

use Rattle.std.proofs.Common.{◌∙◌, ◌∷◌, [], refl, ap}
use Rattle.hub_requests.specs.declared.reply.Reply.TheVariants.{Number}
use Rattle.hub_protocol.specs.Lines.{pieces_of}
use Rattle.hub_protocol.proofs.ReplyReadings.{no_number}
use Rattle.hub_protocol.proofs.replies.read_number.Goals as goal

pub returns-in_err-number : goal.returns-in_err-number
returns-in_err-number c = rw c.from_residual.ensures (no_number c.args.digits.now (pieces_of c.args.rest) c.requires c.in_err-number.ensures)

pub returns-in-Nothing : goal.returns-in-Nothing
returns-in-Nothing c =
    let (small, is) = c.in_ok-number.ensures in
    record {
      reply = Number c.in_ok-number.number;
      sound = small;
      head = refl;
      behind = ap (λ ps. c.args.digits.now ∷ ps) (ap pieces_of c.in-Nothing.is) ∙ ap (λ d. d ∷ []) is;
      shows = refl;
    }

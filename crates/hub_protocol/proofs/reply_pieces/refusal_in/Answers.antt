use Rattle.std.proofs.Common.{◌∙◌, ◌∷◌, ap}
use Rattle.hub_protocol.specs.Lines.{pieces_of}
use Rattle.hub_protocol.proofs.ReplyReadings.{plain_said}
use Rattle.hub_protocol.proofs.reply_pieces.refusal_in.Goals as goal

pub returns-in-Nothing : goal.returns-in-Nothing
returns-in-Nothing c =
    plain_said c.first_piece.result.0.now (pieces_of c.args.rest) c.plain_refusal.result
    (ap pieces_of c.in-Text.is ∙ c.first_piece.ensures ∙ ap (λ ps. c.first_piece.result.0.now ∷ ps) (ap pieces_of c.in-Nothing.is)) c.plain_refusal.ensures

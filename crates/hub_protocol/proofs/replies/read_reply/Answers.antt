use Rattle.std.proofs.Common.{◌∙◌, ◌++◌, ◌∷◌, [], ap, arith}
use Rattle.hub_protocol.specs.Lines.{pieces_of}
use Rattle.hub_protocol.proofs.ReplyReadings.{read_said}
use Rattle.hub_protocol.proofs.replies.read_reply.Goals as goal

pub returns : goal.returns
returns c =
    let line = c.in_ok-last.line.now in
    read_said c.args.text.now line c.first_piece.result.0.now (pieces_of c.first_piece.result.1) c.reply_with.result (omega (arith, c.if-text-gt-LONGEST_REPLY.false))
    (c.in_ok-last.ensures.cases.0 ∙ ap (λ b. line ++ b ∷ []) c.if-last-ne10.false) c.first_piece.ensures c.reply_with.ensures

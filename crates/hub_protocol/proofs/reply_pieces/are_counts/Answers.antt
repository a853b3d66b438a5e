use Rattle.std.proofs.Common.{All, arith}
use Rattle.std.proofs.lemmas.List.Splits.{length-slice_split}
use Rattle.hub_protocol.specs.Spelling.{is_space, fields_of}
use Rattle.hub_protocol.specs.ReplyLines.{AreCountTexts, IsCountText}
use Rattle.hub_protocol.proofs.Splits.{few_fields, many_fields}
use Rattle.hub_protocol.proofs.reply_pieces.are_counts.Goals as goal

pub returns-then-spaces-lt-MOST_SERVICES : goal.returns-then-spaces-lt-MOST_SERVICES
returns-then-spaces-lt-MOST_SERVICES c =
    let text = c.args.text.now in
    few_fields (AreCountTexts (fields_of text)) (All IsCountText (fields_of text)) _
    (λ each. record { few = omega (arith, length-slice_split is_space text, c.spaces.ensures, c.if-spaces-lt-MOST_SERVICES.true); each = each })
    (λ counts. counts.each) c.fields_are_counts.ensures

pub returns-else-spaces-lt-MOST_SERVICES : goal.returns-else-spaces-lt-MOST_SERVICES
returns-else-spaces-lt-MOST_SERVICES c =
    many_fields (AreCountTexts (fields_of c.args.text.now)) c.args.text.now _ (λ counts. counts.few) c.spaces.ensures c.if-spaces-lt-MOST_SERVICES.false

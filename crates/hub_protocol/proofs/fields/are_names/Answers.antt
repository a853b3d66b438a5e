use Rattle.std.proofs.Common.{All, arith}
use Rattle.std.proofs.lemmas.List.Splits.{length-slice_split}
use Rattle.hub_protocol.specs.Spelling.{IsName, AreNames, is_space, fields_of}
use Rattle.hub_protocol.proofs.Splits.{few_fields, many_fields, some_fields}
use Rattle.hub_protocol.proofs.fields.are_names.Goals as goal

pub returns-then-spaces-lt-MOST_SERVICES : goal.returns-then-spaces-lt-MOST_SERVICES
returns-then-spaces-lt-MOST_SERVICES c =
    let text = c.args.text.now in
    few_fields (AreNames (fields_of text)) (All IsName (fields_of text)) _
    (λ each. record { some = some_fields text; few = omega (arith, length-slice_split is_space text, c.spaces.ensures, c.if-spaces-lt-MOST_SERVICES.true); each = each })
    (λ names. names.each) c.fields_are_names.ensures

pub returns-else-spaces-lt-MOST_SERVICES : goal.returns-else-spaces-lt-MOST_SERVICES
returns-else-spaces-lt-MOST_SERVICES c =
    many_fields (AreNames (fields_of c.args.text.now)) c.args.text.now _ (λ names. names.few) c.spaces.ensures c.if-spaces-lt-MOST_SERVICES.false

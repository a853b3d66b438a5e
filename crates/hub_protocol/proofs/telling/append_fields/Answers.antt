use Rattle.std.proofs.Common.{◌≡◌, ◌++◌, ◌+◌, ◌∷◌, length, take, ap, length-append, rules, arith}
use Rattle.hub_requests.specs.Names.{names_text}
use Rattle.hub_requests.proofs.NamesText.{length-names_text-part}
use Rattle.hub_protocol.specs.Spelling.{text_of_field}
use Rattle.hub_protocol.specs.Writing.{field_told}
use Rattle.hub_protocol.proofs.Appending.{next_appended, refused_there}
use Rattle.hub_protocol.proofs.RequestTexts.{length-texts_told, text_more, texts_told}
use Rattle.hub_protocol.proofs.telling.append_fields.Goals as goal

pub returns-in_err-append_field : goal.returns-in_err-append_field
returns-in_err-append_field c =
    let texts = texts_told c.args.fields.now in
    let i = c.loop-field.field-index in
    let so_far = c.loop-field.invariant in
    refused_there c.args.out.now c.loop-field.out c.append_field.new.out c.from_residual.result _ (names_text (take i texts)) _ (names_text (take (i + 1) texts)) (names_text texts) so_far.appended so_far.grown so_far.capacity
    (text_more c.args.fields.now i c.field-item.result c.loop-field-test.true c.field-item.is)
    (length-names_text-part texts (i + 1) (omega (arith, c.loop-field-test.true, length-texts_told c.args.fields.now))) c.in_err-append_field.ensures (search rules)

pub loop-field-preserved : goal.loop-field-preserved
loop-field-preserved c =
    let texts = texts_told c.args.fields.now in
    let i = c.loop-field.field-index in
    let next = 32 ∷ text_of_field (field_told c.field-item.result) in
    let step = c.in_ok-append_field.ensures in
    let whole : c.append_field.new.out.items ≡ c.args.out.now.items ++ names_text (take (i + 1) texts) =
    next_appended _ (names_text (take i texts)) next _ _ _ c.loop-field.invariant.appended (text_more c.args.fields.now i c.field-item.result c.loop-field-test.true c.field-item.is) step.ok in
    record {
      appended = whole;
      grown = omega (arith, ap length whole, length-append c.args.out.now.items (names_text (take (i + 1) texts)));
      capacity = omega (arith, step.capacity, c.loop-field.invariant.capacity);
    }

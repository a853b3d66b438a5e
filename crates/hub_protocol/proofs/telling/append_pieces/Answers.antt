use Rattle.std.proofs.Common.{map, Ok, refl, rules}
use Rattle.hub_requests.specs.Names.{names_text}
use Rattle.hub_protocol.specs.Spelling.{text_of_field}
use Rattle.hub_protocol.specs.Writing.{Appends, field_told}
use Rattle.hub_protocol.proofs.Appending.{then_appended, refused_first}
use Rattle.hub_protocol.proofs.telling.append_pieces.Goals as goal
use Rattle.hub_protocol.proofs.telling.append_pieces.Goals.{In_ok-extend_from_slice}

word_appended : (c : In_ok-extend_from_slice) → Appends c.args.out.now c.extend_from_slice.new.self (Ok c.in_ok-extend_from_slice.field-0) c.args.word.now
word_appended c = record { ok = search rules; err = tt; room = λ fits. refl; capacity = search rules }

pub returns-in_err-append_fields : goal.returns-in_err-append_fields
returns-in_err-append_fields c =
    then_appended _ _ _ _ _ _ _ (word_appended (goal.at.returns-in_err-append_fields c).In_ok-extend_from_slice)
    (refused_first _ _ _ _ (names_text (map text_of_field (map field_told c.args.fields.now))) _ c.in_err-append_fields.ensures (search rules))

pub returns : goal.returns
returns c =
    then_appended _ _ _ _ _ _ _ (word_appended (goal.at.returns c).In_ok-extend_from_slice)
    (then_appended _ _ _ _ _ (names_text (map text_of_field (map field_told c.args.fields.now))) _ c.in_ok-append_fields.ensures c.append_end.ensures)

use Rattle.std.proofs.Common.{◌≡◌, ◌++◌, ◌+◌, ◌≤◌, length, map, take, vec_len}
use Rattle.std.specs.Prelude.{vec_capacity}
use Rattle.hub_requests.specs.Names.{names_text}
use Rattle.hub_protocol.specs.Spelling.{text_of_field}
use Rattle.hub_protocol.specs.Writing.{field_told}
use Rattle.hub_protocol.proofs.telling.append_fields.Given as goal

-- the fields so far are appended
abbrev pub invariant-loop-field : goal.invariant-loop-field
invariant-loop-field l = record {
  appended : l.out.items ≡ l.initial.out.items ++ names_text (take l.field-index (map text_of_field (map field_told l.fields)));
  grown : vec_len l.out ≡ vec_len l.initial.out + length (names_text (take l.field-index (map text_of_field (map field_told l.fields))));
  capacity : vec_capacity l.initial.out ≤ vec_capacity l.out;
}

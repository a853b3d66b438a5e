use Rattle.std.proofs.Common.{◌≡◌, ◌++◌, length, map, take}
use Rattle.std.specs.List.{AllZip}
use Rattle.hub_protocol.specs.Spelling.{IsOf, text_of_field}
use Rattle.hub_protocol.specs.Lines.{AreAllSound, field_shown, pieces_of}
use Rattle.hub_protocol.proofs.line.read_fields.Given as goal

-- the fields so far are read, and the rest is what is behind them
abbrev pub invariant-loop-i : goal.invariant-loop-i
invariant-loop-i l = record {
  long : length l.fields ≡ 4;
  each : AllZip IsOf (take l.i l.kinds) (take l.i (map field_shown l.fields));
  pieces : pieces_of l.initial.rest ≡ map text_of_field (take l.i (map field_shown l.fields)) ++ pieces_of l.rest;
  sound : AreAllSound l.fields;
}

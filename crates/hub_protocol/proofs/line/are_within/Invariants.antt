use Rattle.std.proofs.Common.{map, take}
use Rattle.std.specs.List.{AllZip}
use Rattle.hub_protocol.specs.Lines.{IsWithinKind, field_shown}
use Rattle.hub_protocol.proofs.line.are_within.Given as goal

-- each number so far is in its range
abbrev pub invariant-loop-i : goal.invariant-loop-i
invariant-loop-i l = AllZip IsWithinKind (take l.i l.kinds) (take l.i (map field_shown l.fields))

use Rattle.std.specs.Prelude.{flat_map, take}
use Rattle.std.specs.Io.KnownBytes.{Appends}
use Rattle.hub_serving.specs.Pending.{line_if}
use Rattle.hub_serving.proofs.living.tell_each.Given as goal

-- the lines so far were written
abbrev pub invariant-lines : goal.invariant-lines
invariant-lines g l =
    Appends (g.W.Write.contents l.fn.out) (g.W.Write.contents l.out) (flat_map line_if (take l.line-index l.lines))

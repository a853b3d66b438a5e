use Rattle.std.proofs.Common.{◌≡◌, ℕ, ◌+◌, List, ◌++◌, drop, OnOk}
use Rattle.std.specs.Io.KnownBytes.{Appends}
use Rattle.hub_endings.specs.Faults.{session_lines}
use Rattle.hub_endings.proofs.stopped.tell_sessions.Given as goal

-- the lines before those of the sessions that are left were written, if all writes went well
abbrev pub invariant-sessions : goal.invariant-sessions
invariant-sessions g l = (lines : List ℕ)
    × (lines ++ session_lines (l.at + 1) (drop l.at l.results) ≡ session_lines 1 l.results)
    × OnOk l.told (Appends (g.W.Write.contents l.fn.out) (g.W.Write.contents l.out) lines)

use Rattle.std.proofs.Common.{ℕ}
use Rattle.hub_server.specs.Doors.{Passed}
use Rattle.hub_server.proofs.listening.accept_one.Given as goal

-- so many accepts failed by a fault that passes
abbrev pub invariant-faults : goal.invariant-faults
invariant-faults g l = (count : ℕ) × Passed g.L.Listen.accepts count l.fn.listener l.listener

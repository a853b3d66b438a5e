use Rattle.std.proofs.Common.{◌≡◌}
use Rattle.hub_fifodir.proofs.fifodir.Fifodir.lock.Given as goal

abbrev pub invariant-loop : goal.invariant-loop
invariant-loop g l = (l.seat.at.table_id ≡ l.initial.seat.at.table_id) × (l.seat.at.id ≡ l.initial.seat.at.id) × (l.seat.at.me ≡ l.initial.seat.at.me)

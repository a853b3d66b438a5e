use Rattle.std.proofs.Common.{◌≡◌, ◌*◌, ◌+◌, ◌≤◌, ◌<◌, vec_len}
use Rattle.hub_requests.specs.declared.bounds.TheConstants.{MOST_TAKEN}
use Rattle.hub_handles.proofs.room.Room.larger.Given as goal

-- so many whole copies are made
abbrev pub invariant-loop : goal.invariant-loop
invariant-loop l = record {
  so_far : vec_len l.events ≡ MOST_TAKEN * l.counter;
  fits : MOST_TAKEN * l.end ≤ l.size;
  rest : l.size < MOST_TAKEN * l.end + MOST_TAKEN;
}

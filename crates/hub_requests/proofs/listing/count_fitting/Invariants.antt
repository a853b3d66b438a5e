use Rattle.std.proofs.Common.{◌≡◌, ◌+◌, length, take}
use Rattle.hub_requests.specs.Names.{names_text}
use Rattle.hub_requests.specs.declared.bounds.TheConstants.{ROOM_FOR_NAMES}
use Rattle.hub_requests.proofs.listing.count_fitting.Given as goal

-- the room that the names so far leave
abbrev pub invariant-loop-i : goal.invariant-loop-i
invariant-loop-i l = l.room + length (names_text (take l.i l.names)) ≡ ROOM_FOR_NAMES

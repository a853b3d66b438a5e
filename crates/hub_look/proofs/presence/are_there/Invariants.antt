use Rattle.std.proofs.Common.{◌≡◌}
use Rattle.hub_look.proofs.presence.are_there.Given as goal

-- the peer began at the same sender
abbrev pub invariant-names : goal.invariant-names
invariant-names g l = l.peer.begun ≡ l.fn.peer.begun

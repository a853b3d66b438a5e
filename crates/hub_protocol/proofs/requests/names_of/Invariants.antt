use Rattle.std.proofs.Common.{◌≡◌, map}
use Rattle.hub_protocol.proofs.requests.names_of.Given as goal

-- the names so far
abbrev pub invariant-loop-name : goal.invariant-loop-name
invariant-loop-name l =
    (goal.iterator-loop-name).can_next l.name-iterator
    × (goal.iterator-loop-name).is_finite l.name-iterator
    × (l.names.items ≡ map (λ name. name.now) l.yielded)

-- By when the calls on a connection end.
use Rattle.std.specs.Prelude.{◌≡◌}
use Rattle.hub_ask.specs.declared.bounded.Bounded.{Bounded}
use Rattle.hub_ask.specs.declared.deadline.Deadline.{Deadline}
use Rattle.hub_ask.specs.declared.timed.Timed.{Timed}

-- the deadline of a half
abbrev pub deadline_of : {C : Type 0} → Timed C → Deadline
deadline_of half = half.deadline

-- both halves of a connection have this deadline
abbrev pub EndBy : {C : Type 0} → Deadline → Bounded (Timed C) → Timed C → Type 0
EndBy deadline replies requests = (deadline_of replies.inner ≡ deadline) × (deadline_of requests ≡ deadline)

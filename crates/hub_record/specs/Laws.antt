-- What becomes of a subscription in the course of a run.
use Rattle.std.specs.Prelude.{ℕ, ◌≡◌, ◌⊎◌, true, Some, None, Ok, Err}
use Rattle.hub_record.specs.declared.Taken.TheVariants.{Evicted}
use Rattle.hub_record.specs.World.{World, Subscription, is_evicted, subscription_in, take_reply}

-- the id has this subscription, and it is evicted
abbrev pub IsOut : World → ℕ → Subscription → Type 0
IsOut w id s = (subscription_in w id ≡ Some s) × (is_evicted w s.next ≡ true)

-- it is evicted and has gathered no more, or it was cancelled
abbrev pub StaysOut : World → ℕ → Subscription → Type 0
StaysOut w id s = IsOut w id s ⊎ (subscription_in w id ≡ None)

-- a take says that the id is evicted, or that it was cancelled
abbrev pub SaysOut : World → ℕ → ℕ → Type 0
SaysOut w id most = (take_reply w id most ≡ Ok Evicted) ⊎ (take_reply w id most ≡ Err (record {}))

-- the subscription of the id has this mark, unless it was cancelled
abbrev pub HasMark : World → ℕ → ℕ → Type 0
HasMark w id mark = (s : Subscription) → subscription_in w id ≡ Some s → s.mark ≡ mark

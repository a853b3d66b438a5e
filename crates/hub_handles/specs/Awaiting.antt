-- What a session is told that awaits something at a handle.
use Rattle.std.specs.Prelude.{◌≡◌, ◌≢◌, ◌⊎◌, ℕ, None, Some}
use Rattle.hub_requests.specs.declared.reply.Reply.{Reply}
use Rattle.hub_requests.specs.declared.reply.Reply.TheVariants as answer
use Rattle.hub_fifodir.specs.Passes.{HasMore, IsQuiet}
use Rattle.hub_handles.specs.declared.handles.Handles.{Handles}
use Rattle.hub_handles.specs.declared.session_listener.SessionListener.{SessionListener}
use Rattle.hub_handles.specs.declared.subscription.Subscription.{Subscription}
use Rattle.hub_handles.specs.Handles.{IsUnknown, ListenerSteps, SubscriptionSteps, listener_of, subscription_of}
use Rattle.hub_handles.specs.Taking.{HasLooked}

-- the next take has something to do
abbrev pub HasMoreToTake : Subscription → Type 0
HasMoreToTake s = HasMore s.ticket

abbrev pub HasNoneToTake : Subscription → Type 0
HasNoneToTake s = IsQuiet s.ticket

-- the next poll has something to do: a letter is held, or its subscription has more
abbrev pub HasMoreToHear : SessionListener → Type 0
HasMoreToHear h = (h.held ≢ None) ⊎ HasMoreToTake h.subscription

abbrev pub HasNoneToHear : SessionListener → Type 0
HasNoneToHear h = (h.held ≡ None) × HasNoneToTake h.subscription

-- its subscription only looked, and it has heard nothing
pub record HasOnlyLooked (old new : SessionListener) : Type 0 where
  pub looked : HasLooked old.subscription new.subscription
  pub listener : new.listener ≡ old.listener
  pub mode : new.mode ≡ old.mode
  pub held : new.held ≡ old.held

-- `ok` if there is more, and `late` if there is none
abbrev pub Tells : (more none : Type 0) → Reply → Type 0
Tells more none answer.Done = more
Tells more none answer.Late = none
Tells more none _ = ⊥

-- a subscription only looked, and this is told of what it found
abbrev pub AwaitsEvents : Reply → Subscription → Subscription → Type 0
AwaitsEvents reply before after = HasLooked before after × Tells (HasMoreToTake after) (HasNoneToTake after) reply

-- a listener only looked, and this is told of what it found
abbrev pub AwaitsLetters : Reply → SessionListener → SessionListener → Type 0
AwaitsLetters reply before after = HasOnlyLooked before after × Tells (HasMoreToHear after) (HasNoneToHear after) reply

-- no handle has the number
abbrev pub HasNeither : Handles → ℕ → Type 0
HasNeither hs id = (subscription_of hs id ≡ None) × (listener_of hs id ≡ None)

abbrev pub AwaitsAt : Handles → ℕ → Reply → Handles → Type 0
AwaitsAt old id reply new = SubscriptionSteps (AwaitsEvents reply) old id new ⊎ (ListenerSteps (AwaitsLetters reply) Some old id new ⊎ IsUnknown (HasNeither old id) old reply new)

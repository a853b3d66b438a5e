-- What a session holds, by handle.
use Rattle.std.specs.Prelude.{◌≡◌, ◌+◌, ◌≤◌, ◌<◌, ℕ, Option, None, Some, true, false, nat_eq, is_some, if◌then◌else◌, ◌⊎◌, List, []}
use Rattle.std.specs.Map.{lookup}
use Rattle.indexmap.specs.IndexMap.{index_map_len}
use Rattle.hub_requests.specs.Room.{refusal_of_handle}
use Rattle.hub_requests.specs.Refusals.{refusal_of_sub}
use Rattle.hub_record.specs.declared.SubError.{SubError}
use Rattle.hub_requests.specs.declared.reply.Refusal.{Refusal}
use Rattle.hub_requests.specs.declared.reply.Refusal.TheVariants as no
use Rattle.hub_requests.specs.declared.reply.Reply.{Reply}
use Rattle.hub_requests.specs.declared.reply.Reply.TheVariants.{Done, Number, No}
use Rattle.hub_fifodir.specs.declared.fifodir.Fifodir.{Fifodir}
use Rattle.hub_fifodir.specs.Passes.{MayRefuseTicket}
use Rattle.hub_listen.specs.Hit.{IsPattern}
use Rattle.hub_listen.specs.Listening.{new_listening}
use Rattle.hub_letters.specs.declared.mode.Mode.{Mode}
use Rattle.hub_letters.specs.declared.mode.Mode.TheVariants.{Repeat}
use Rattle.hub_requests.specs.declared.bounds.TheConstants.{MOST_HANDLES, MOST_NUMBERS}
use Rattle.hub_handles.specs.declared.handles.Handles.{Handles}
use Rattle.hub_handles.specs.declared.session_listener.SessionListener.{SessionListener}
use Rattle.hub_handles.specs.declared.subscription.Subscription.{Subscription}
use Rattle.hub_handles.specs.Taking.{Begins, Takes}
use Rattle.hub_handles.specs.Hearings.{Polls, ends_by}

-- how many handles were given
abbrev pub given_of : Handles → ℕ
given_of hs = hs.given

-- no handle is current
pub record HoldsNone (hs : Handles) : Type 0 where
  pub subscriptions : hs.subscriptions.entries ≡ []
  pub listeners : hs.listeners.entries ≡ []

-- what has the number
abbrev pub subscription_of : Handles → ℕ → Option Subscription
subscription_of hs id = lookup (nat_eq id) hs.subscriptions.entries

abbrev pub listener_of : Handles → ℕ → Option SessionListener
listener_of hs id = lookup (nat_eq id) hs.listeners.entries

-- how many handles are current
abbrev pub current_handles : Handles → ℕ
current_handles hs = index_map_len hs.subscriptions + index_map_len hs.listeners

-- why no further handle may be given; none if one may
abbrev pub refusal_of : Handles → Option Refusal
refusal_of hs = refusal_of_handle (current_handles hs) (given_of hs)

-- it comes before any other
abbrev pub IsFirst : Option Refusal → (Refusal → Type 0) → Refusal → Type 0
IsFirst (Some first) IsOther refusal = refusal ≡ first
IsFirst None IsOther refusal = IsOther refusal

-- the fifodir gives no subscription, and this is why
abbrev pub IsByFifodir : Fifodir → Refusal → Type 0
IsByFifodir fifodir refusal = (error : SubError) × (refusal ≡ refusal_of_sub error) × MayRefuseTicket fifodir error

-- that, or there is no memory for one more handle
abbrev pub IsOfSub : Fifodir → Refusal → Type 0
IsOfSub fifodir refusal = (refusal ≡ no.Memory) ⊎ IsByFifodir fifodir refusal

abbrev pub IsRefusedSub : Handles → Fifodir → Refusal → Type 0
IsRefusedSub hs fifodir refusal = IsFirst (refusal_of hs) (IsOfSub fifodir) refusal

-- A listener also needs a pattern, or the memory for one. Only if the text is a pattern, the fifodir refuses.
abbrev pub IsOfListener : List ℕ → Fifodir → Refusal → Type 0
IsOfListener text fifodir refusal = (refusal ≡ no.Pattern) ⊎ (refusal ≡ no.Memory) ⊎ (IsPattern text × IsByFifodir fifodir refusal)

abbrev pub IsRefusedListener : Handles → List ℕ → Fifodir → Refusal → Type 0
IsRefusedListener hs text fifodir refusal = IsFirst (refusal_of hs) (IsOfListener text fifodir) refusal

-- the same handles are current, and as many were given
pub record IsStill (old new : Handles) : Type 0 where
  pub given : new.given ≡ old.given
  pub subscriptions : new.subscriptions.entries ≡ old.subscriptions.entries
  pub listeners : new.listeners.entries ≡ old.listeners.entries

-- the number is the next one, which was never given
pub record IsNext (old : Handles) (number : ℕ) (new : Handles) : Type 0 where
  pub few : current_handles old < MOST_HANDLES
  pub next : number ≡ old.given + 1
  pub within : number ≤ MOST_NUMBERS
  pub given : new.given ≡ number
  pub unsubscribed : subscription_of old number ≡ None
  pub unheard : listener_of old number ≡ None

-- a subscription to the fifodir by this name that begins now has the next number
pub record AddsSubscription (old : Handles) (name : List ℕ) (fifodir : Fifodir) (number : ℕ) (new : Handles) : Type 0 where
  pub is_next : IsNext old number new
  pub subscription : Subscription
  pub begins : Begins name fifodir subscription
  pub placed : subscription_of new number ≡ Some subscription
  pub others : (other : ℕ) → nat_eq number other ≡ false → subscription_of new other ≡ subscription_of old other
  pub listeners : new.listeners.entries ≡ old.listeners.entries

-- a listener in this mode that has heard nothing hears such a subscription
pub record AddsListener (old : Handles) (name : List ℕ) (fifodir : Fifodir) (mode : Mode) (pattern : List ℕ) (number : ℕ) (new : Handles) : Type 0 where
  pub is_next : IsNext old number new
  pub hearing : SessionListener
  pub begins : Begins name fifodir hearing.subscription
  pub read : IsPattern pattern
  pub heard : hearing.listener ≡ new_listening pattern Repeat
  pub mode_is : hearing.mode ≡ mode
  pub unheld : hearing.held ≡ None
  pub placed : listener_of new number ≡ Some hearing
  pub others : (other : ℕ) → nat_eq number other ≡ false → listener_of new other ≡ listener_of old other
  pub subscriptions : new.subscriptions.entries ≡ old.subscriptions.entries

-- a handle under the next number, or none
abbrev pub Subscribes : List ℕ → Fifodir → Handles → Reply → Handles → Type 0
Subscribes name fifodir old (Number n) new = AddsSubscription old name fifodir n new
Subscribes name fifodir old (No refusal) new = IsStill old new × IsRefusedSub old fifodir refusal
Subscribes name fifodir old _ new = ⊥

abbrev pub Listens : List ℕ → Fifodir → Mode → List ℕ → Handles → Reply → Handles → Type 0
Listens name fifodir mode pattern old (Number n) new = AddsListener old name fifodir mode pattern n new
Listens name fifodir mode pattern old (No refusal) new = IsStill old new × IsRefusedListener old pattern fifodir refusal
Listens name fifodir mode pattern old _ new = ⊥

-- ---- one handle changes, or none

-- what has the number takes this step, and this is left of it; what has another number hasn't changed
pub record StepsUnder {A : Type 0} (Step : A → A → Type 0) (left : A → Option A) (id : ℕ) (old new : ℕ → Option A) : Type 0 where
  pub before : A
  pub after : A
  pub held : old id ≡ Some before
  pub step : Step before after
  pub kept : new id ≡ left after
  pub others : (other : ℕ) → nat_eq id other ≡ false → new other ≡ old other

-- the subscription under the number takes this step, and nothing else has changed
pub record SubscriptionSteps (Step : Subscription → Subscription → Type 0) (old : Handles) (id : ℕ) (new : Handles) : Type 0 where
  pub under : StepsUnder Step Some id (subscription_of old) (subscription_of new)
  pub listeners : new.listeners.entries ≡ old.listeners.entries
  pub given : new.given ≡ old.given

-- the listener under the number takes this step, and this is left of it; nothing else has changed
pub record ListenerSteps (Step : SessionListener → SessionListener → Type 0) (left : SessionListener → Option SessionListener) (old : Handles) (id : ℕ) (new : Handles) : Type 0 where
  pub under : StepsUnder Step left id (listener_of old) (listener_of new)
  pub subscriptions : new.subscriptions.entries ≡ old.subscriptions.entries
  pub given : new.given ≡ old.given

-- no handle that may be asked so has the number
pub record IsUnknown (Unknown : Type 0) (old : Handles) (reply : Reply) (new : Handles) : Type 0 where
  pub still : IsStill old new
  pub unknown : Unknown
  pub refused : reply ≡ No no.Id

-- ---- take, poll and cancel

abbrev pub TakesAt : Handles → ℕ → ℕ → Reply → Handles → Type 0
TakesAt old id max reply new = SubscriptionSteps (λ before after. Takes max before reply after) old id new ⊎ IsUnknown (subscription_of old id ≡ None) old reply new

-- a listener is gone after the one hit of mode Once
abbrev pub left_by : Reply → SessionListener → Option SessionListener
left_by reply after = if ends_by after.mode reply then None else Some after

abbrev pub PollsAt : Handles → ℕ → Reply → Handles → Type 0
PollsAt old id reply new = ListenerSteps (λ before after. Polls before reply after) (left_by reply) old id new ⊎ IsUnknown (listener_of old id ≡ None) old reply new

pub record Cancels (old : Handles) (id : ℕ) (reply : Reply) (new : Handles) : Type 0 where
  pub unknown : subscription_of old id ≡ None → listener_of old id ≡ None → (reply ≡ No no.Id) × IsStill old new
  pub known : (is_some (subscription_of old id) ≡ true) ⊎ (is_some (listener_of old id) ≡ true) → reply ≡ Done
  pub gone : subscription_of new id ≡ None
  pub heard : is_some (subscription_of old id) ≡ true → new.listeners.entries ≡ old.listeners.entries
  pub unheard : subscription_of old id ≡ None → listener_of new id ≡ None
  pub others : (other : ℕ) → nat_eq id other ≡ false → (subscription_of new other ≡ subscription_of old other) × (listener_of new other ≡ listener_of old other)
  pub given : new.given ≡ old.given

-- What a session is told that takes or polls as soon as something comes.
use Rattle.std.specs.Prelude.{◌≡◌, ◌⊎◌, ◌-◌, ℕ, length, min}
use Rattle.hub_letters.specs.declared.mode.TheConstants.{MOST_GATHERED}
use Rattle.hub_requests.specs.Lateness.{or_late}
use Rattle.hub_requests.specs.declared.reply.Reply.{Reply}
use Rattle.hub_requests.specs.declared.reply.Reply.TheVariants as answer
use Rattle.hub_fifodir.specs.Passes.{ticket_next}
use Rattle.hub_handles.specs.declared.handles.Handles.{Handles}
use Rattle.hub_handles.specs.declared.session_listener.SessionListener.{SessionListener}
use Rattle.hub_handles.specs.declared.subscription.Subscription.{Subscription}
use Rattle.hub_handles.specs.Awaiting.{HasNeither}
use Rattle.hub_handles.specs.Handles.{IsUnknown, ListenerSteps, SubscriptionSteps, left_by}
use Rattle.hub_handles.specs.Hearings.{HasRoom, HearsQuietly, Polls, Stops}
use Rattle.hub_handles.specs.Taking.{HasLooked, HasPending, Takes, seen_of}

-- how many events wait for it, by what its ticket has seen
abbrev pub waiting_for : Subscription → ℕ
waiting_for s = length (seen_of s) - ticket_next s.ticket

-- letters are answered only if some waited at the look
abbrev pub IsDue : Reply → Subscription → Type 0
IsDue (answer.Got letters) looked = HasPending looked
IsDue reply looked = Unit {0}

-- It looked, and took all that waited then, or as many of these as a reply shows.
pub record TakesWaiting (old : Subscription) (reply : Reply) (new : Subscription) : Type 0 where
  pub looked : Subscription
  pub looks : HasLooked old looked
  pub takes : Takes (min (waiting_for looked) MOST_GATHERED) looked reply new
  pub due : IsDue reply looked

-- a further poll would say the same: no letter waits, and there is room for one
abbrev pub IsLast : Reply → SessionListener → Type 0
IsLast answer.Nothing h = HasRoom h × Stops answer.Nothing h
IsLast reply h = Unit {0}

-- All that came was heard quietly, until a poll answered this.
pub record PollsOn (old : SessionListener) (reply : Reply) (new : SessionListener) : Type 0 where
  pub polled : SessionListener
  pub quietly : HearsQuietly old polled
  pub polls : Polls polled reply new
  pub last : IsLast reply new

abbrev pub TellsAt : Handles → ℕ → Reply → Handles → Type 0
TellsAt old id told new =
    SubscriptionSteps (λ before after. TakesWaiting before told after) old id new
    ⊎ (ListenerSteps (λ before after. PollsOn before told after) (left_by told) old id new ⊎ IsUnknown (HasNeither old id) old told new)

-- it is late where a take or a poll would have answered `none`
pub record NextsAt (old : Handles) (id : ℕ) (reply : Reply) (new : Handles) : Type 0 where
  pub told : Reply
  pub tells : TellsAt old id told new
  pub said : reply ≡ or_late told

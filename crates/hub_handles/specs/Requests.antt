-- What a session is answered to a request that names a handle.
use Rattle.std.specs.Prelude.{◌≡◌, ℕ, Option, Some}
use Rattle.hub_requests.specs.declared.request.Request.{Request}
use Rattle.hub_requests.specs.declared.request.Request.TheVariants.{Take, Cancel, Poll, Await, Next}
use Rattle.hub_requests.specs.declared.reply.Reply.{Reply}
use Rattle.hub_handles.specs.declared.handles.Handles.{Handles}
use Rattle.hub_handles.specs.declared.session_listener.SessionListener.{SessionListener}
use Rattle.hub_handles.specs.declared.subscription.Subscription.{Subscription}
use Rattle.hub_handles.specs.Taking.{IsSameTicket}
use Rattle.hub_handles.specs.Handles.{TakesAt, PollsAt, Cancels, subscription_of, listener_of}
use Rattle.hub_handles.specs.Hearings.{subscription_in}
use Rattle.hub_handles.specs.Awaiting.{AwaitsAt}
use Rattle.hub_handles.specs.Nexts.{NextsAt}

abbrev pub AsksHandle : Handles → Request → Reply → Handles → Type 0
AsksHandle old (Take id max) reply new = TakesAt old id max reply new
AsksHandle old (Cancel id) reply new = Cancels old id reply new
AsksHandle old (Poll id) reply new = PollsAt old id reply new
AsksHandle old (Await id turns) reply new = AwaitsAt old id reply new
AsksHandle old (Next id turns) reply new = NextsAt old id reply new
AsksHandle old request reply new = ⊥

-- what has a number had it before, and its ticket is the same
pub record HadTicket {A : Type 0} (ticket : A → Subscription) (old : ℕ → Option A) (id : ℕ) (after : A) : Type 0 where
  pub before : A
  pub had : old id ≡ Some before
  pub same : IsSameTicket (ticket before) (ticket after)

-- each handle that there still is has its ticket
pub record KeepsTickets (old new : Handles) : Type 0 where
  pub subscriptions : (id : ℕ) (s : Subscription) → subscription_of new id ≡ Some s → HadTicket (λ s. s) (subscription_of old) id s
  pub listeners : (id : ℕ) (h : SessionListener) → listener_of new id ≡ Some h → HadTicket subscription_in (listener_of old) id h

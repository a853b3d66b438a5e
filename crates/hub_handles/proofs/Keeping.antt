-- Whatever is asked at a handle, each handle that there still is has its ticket.
use Rattle.std.proofs.Common.{◌≡◌, ℕ, Bool, true, false, Option, None, Some, is_some, nat_eq, refl, sym, ap, subst, ◌∙◌, inl, inr}
use Rattle.std.specs.Prelude.{if◌then◌else◌}
use Rattle.std.specs.Map.{lookup}
use Rattle.std.proofs.lemmas.Bool.{cases_Bool, eqb-true}
use Rattle.hub_requests.specs.declared.request.Request.{Request}
use Rattle.hub_requests.specs.declared.request.Request.TheVariants.{Take, Cancel, Poll, Await, Next}
use Rattle.hub_requests.specs.declared.reply.Reply.{Reply}
use Rattle.hub_requests.specs.declared.reply.Reply.TheVariants as answer
use Rattle.hub_handles.specs.declared.handles.Handles.{Handles}
use Rattle.hub_handles.specs.declared.session_listener.SessionListener.{SessionListener}
use Rattle.hub_handles.specs.declared.subscription.Subscription.{Subscription}
use Rattle.hub_handles.specs.Taking.{IsSameTicket, Takes}
use Rattle.hub_handles.specs.Hearings.{Polls, ends_by, subscription_in}
use Rattle.hub_handles.specs.Handles.{Cancels, IsStill, ListenerSteps, PollsAt, SubscriptionSteps, TakesAt, left_by, listener_of, subscription_of}
use Rattle.hub_handles.specs.Awaiting.{AwaitsAt}
use Rattle.hub_handles.specs.Nexts.{PollsOn, TakesWaiting, TellsAt}
use Rattle.hub_handles.specs.Requests.{AsksHandle, HadTicket, KeepsTickets}
use Rattle.hub_handles.proofs.Looks.{same_ticket, same_ticket_through}

is_one : {A : Type 0} (a b : A) → Some a ≡ Some b → a ≡ b
is_one a b e = cc

not_there : {A : Type 0} (a : A) → None ≡ Some a → ⊥
not_there a e = cc

-- nothing has changed
unchanged : {A : Type 0} (ticket : A → Subscription) (old new : ℕ → Option A) → ((n : ℕ) → new n ≡ old n) → (n : ℕ) (a : A) → new n ≡ Some a → HadTicket ticket old n a
unchanged ticket old new same n a at = record { before = a; had = sym (same n) ∙ at; same = same_ticket (ticket a) }

-- nothing has changed but under one number
changed_at : {A : Type 0} (ticket : A → Subscription) (old new : ℕ → Option A) (id : ℕ) (here : Option A) → new id ≡ here → ((a : A) → here ≡ Some a → HadTicket ticket old id a)
    → ((other : ℕ) → nat_eq id other ≡ false → new other ≡ old other) → (n : ℕ) (a : A) → new n ≡ Some a → HadTicket ticket old n a
changed_at ticket old new id here is holds others n a at =
    elim (cases_Bool (nat_eq id n)) [
      | inl e ↦ subst (λ (k : ℕ). HadTicket ticket old k a) (eqb-true id n e) (holds a (sym is ∙ ap new (eqb-true id n e) ∙ at))
      | inr e ↦ record { before = a; had = sym (others n e) ∙ at; same = same_ticket (ticket a) }
    ]

-- what is under that number has the ticket of what was there
had_by : {A : Type 0} (ticket : A → Subscription) (old : ℕ → Option A) (id : ℕ) (before after : A) → old id ≡ Some before → IsSameTicket (ticket before) (ticket after) → HadTicket ticket old id after
had_by ticket old id before after had same = record { before = before; had = had; same = same }

still_keeps : (old new : Handles) → IsStill old new → KeepsTickets old new
still_keeps old new still = record {
  subscriptions = unchanged (λ s. s) (subscription_of old) (subscription_of new) (λ n. ap (lookup (nat_eq n)) still.subscriptions);
  listeners = unchanged subscription_in (listener_of old) (listener_of new) (λ n. ap (lookup (nat_eq n)) still.listeners);
}

pub subscription_keeps : (Step : Subscription → Subscription → Type 0) → ((before after : Subscription) → Step before after → IsSameTicket before after) → (old new : Handles) (id : ℕ)
    → SubscriptionSteps Step old id new → KeepsTickets old new
subscription_keeps Step same old new id t = let u = t.under in record {
  subscriptions = changed_at (λ s. s) (subscription_of old) (subscription_of new) id (Some u.after) u.kept
      (λ s is. subst (HadTicket (λ s. s) (subscription_of old) id) (is_one u.after s is) (had_by (λ s. s) (subscription_of old) id u.before u.after u.held (same u.before u.after u.step))) u.others;
  listeners = unchanged subscription_in (listener_of old) (listener_of new) (λ n. ap (lookup (nat_eq n)) t.listeners);
}

listener_keeps : (Step : SessionListener → SessionListener → Type 0) (left : SessionListener → Option SessionListener) → ((before after : SessionListener) → Step before after → IsSameTicket before.subscription after.subscription)
    → ((after h : SessionListener) → left after ≡ Some h → after ≡ h) → (old new : Handles) (id : ℕ) → ListenerSteps Step left old id new → KeepsTickets old new
listener_keeps Step left same is_left old new id t = let u = t.under in record {
  subscriptions = unchanged (λ s. s) (subscription_of old) (subscription_of new) (λ n. ap (lookup (nat_eq n)) t.subscriptions);
  listeners = changed_at subscription_in (listener_of old) (listener_of new) id (left u.after) u.kept
      (λ h is. subst (HadTicket subscription_in (listener_of old) id) (is_left u.after h is) (had_by subscription_in (listener_of old) id u.before u.after u.held (same u.before u.after u.step))) u.others;
}

-- ---- take, poll, await and cancel

taken_same : (max : ℕ) (before after : Subscription) (reply : Reply) → Takes max before reply after → IsSameTicket before after
taken_same max before after reply (inl takes) = takes.same
taken_same max before after reply (inr lacks) = lacks.looked.same

take_keeps : (old new : Handles) (id max : ℕ) (reply : Reply) → TakesAt old id max reply new → KeepsTickets old new
take_keeps old new id max reply (inl t) = subscription_keeps _ (λ before after takes. taken_same max before after reply takes) old new id t
take_keeps old new id max reply (inr u) = still_keeps old new u.still

polled_same : (before after : SessionListener) (reply : Reply) → Polls before reply after → IsSameTicket before.subscription after.subscription
polled_same before after (answer.Hit hit) (fed, hears, is, unheld) = hears.comes.ticket
polled_same before after answer.Nothing (few, (fed, hears), why) = hears.comes.ticket
polled_same before after answer.End (few, (fed, hears), why) = hears.comes.ticket
polled_same before after answer.Evicted (few, (fed, hears), why) = hears.comes.ticket
polled_same before after (answer.No refusal) (inl (e, full, same)) = subst (λ (h : SessionListener). IsSameTicket before.subscription h.subscription) (sym same) (same_ticket before.subscription)
polled_same before after (answer.No refusal) (inr (e, few, (fed, hears), more)) = hears.comes.ticket
polled_same before after reply p = absurd p

is_left_if : (ends : Bool) (after h : SessionListener) → (if ends then None else Some after) ≡ Some h → after ≡ h
is_left_if true after h e = absurd (not_there h e)
is_left_if false after h e = is_one after h e

poll_keeps : (old new : Handles) (id : ℕ) (reply : Reply) → PollsAt old id reply new → KeepsTickets old new
poll_keeps old new id reply (inl t) =
    listener_keeps _ (left_by reply) (λ before after polls. polled_same before after reply polls) (λ after h. is_left_if (ends_by after.mode reply) after h) old new id t
poll_keeps old new id reply (inr u) = still_keeps old new u.still

await_keeps : (old new : Handles) (id : ℕ) (reply : Reply) → AwaitsAt old id reply new → KeepsTickets old new
await_keeps old new id reply (inl t) = subscription_keeps _ (λ before after step. step.0.same) old new id t
await_keeps old new id reply (inr (inl t)) = listener_keeps _ Some (λ before after step. step.0.looked.same) is_one old new id t
await_keeps old new id reply (inr (inr u)) = still_keeps old new u.still

takes_waiting_same : (before after : Subscription) (reply : Reply) → TakesWaiting before reply after → IsSameTicket before after
takes_waiting_same before after reply t = same_ticket_through before t.looked after t.looks.same (taken_same _ t.looked after reply t.takes)

polls_on_same : (before after : SessionListener) (reply : Reply) → PollsOn before reply after → IsSameTicket before.subscription after.subscription
polls_on_same before after reply p =
    same_ticket_through before.subscription p.polled.subscription after.subscription p.quietly.1.comes.ticket (polled_same p.polled after reply p.polls)

next_keeps : (old new : Handles) (id : ℕ) (reply : Reply) → TellsAt old id reply new → KeepsTickets old new
next_keeps old new id reply (inl t) = subscription_keeps _ (λ before after takes. takes_waiting_same before after reply takes) old new id t
next_keeps old new id reply (inr (inl t)) =
    listener_keeps _ (left_by reply) (λ before after polls. polls_on_same before after reply polls) (λ after h. is_left_if (ends_by after.mode reply) after h) old new id t
next_keeps old new id reply (inr (inr u)) = still_keeps old new u.still

cancel_keeps : (old new : Handles) (id : ℕ) (reply : Reply) → Cancels old id reply new → KeepsTickets old new
cancel_keeps old new id reply c = record {
  subscriptions = changed_at (λ s. s) (subscription_of old) (subscription_of new) id None c.gone (λ s is. absurd (not_there s is)) (λ other e. (c.others other e).0);
  listeners = heard (subscription_of old id) refl;
}
  where
    heard : (o : Option Subscription) → subscription_of old id ≡ o → (n : ℕ) (h : SessionListener) → listener_of new n ≡ Some h → HadTicket subscription_in (listener_of old) n h
    heard None was = changed_at subscription_in (listener_of old) (listener_of new) id None (c.unheard was) (λ h is. absurd (not_there h is)) (λ other e. (c.others other e).1)
    heard (Some s) was = unchanged subscription_in (listener_of old) (listener_of new) (λ n. ap (lookup (nat_eq n)) (c.heard (ap is_some was)))

pub keeps_tickets : (old new : Handles) (request : Request) (reply : Reply) → AsksHandle old request reply new → KeepsTickets old new
keeps_tickets old new (Take id max) reply asks = take_keeps old new id max reply asks
keeps_tickets old new (Cancel id) reply asks = cancel_keeps old new id reply asks
keeps_tickets old new (Poll id) reply asks = poll_keeps old new id reply asks
keeps_tickets old new (Await id turns) reply asks = await_keeps old new id reply asks
keeps_tickets old new (Next id turns) reply asks = next_keeps old new id asks.told asks.tells
keeps_tickets old new request reply asks = absurd asks

-- How a next follows from its looks, its take and its polls.
use Rattle.std.proofs.Common.{◌≡◌, ◌≢◌, ◌≤◌, ◌<◌, ◌++◌, ◌∙◌, ◌⊎◌, ℕ, [], length, min, nat_eq, Some, None, Err, false, refl, sym, ap, subst, inl, inr, arith}
use Rattle.hub_letters.specs.declared.mode.TheConstants.{MOST_GATHERED}
use Rattle.hub_listen.specs.declared.feed.Feed.TheVariants.{Quiet}
use Rattle.hub_requests.specs.declared.reply.Reply.{Reply}
use Rattle.hub_requests.specs.declared.reply.Reply.TheVariants as answer
use Rattle.hub_requests.specs.declared.reply.Refusal.TheVariants as no
use Rattle.hub_handles.specs.declared.handles.Handles.{Handles}
use Rattle.hub_handles.specs.declared.session_listener.SessionListener.{SessionListener}
use Rattle.hub_handles.specs.declared.subscription.Subscription.{Subscription}
use Rattle.hub_handles.specs.Awaiting.{HasNoneToTake}
use Rattle.hub_handles.specs.Handles.{left_by, listener_of}
use Rattle.hub_handles.specs.Hearings.{HasRoom, HearsQuietly, Polls, Stops}
use Rattle.hub_handles.specs.Nexts.{IsDue, IsLast, PollsOn, TakesWaiting, TellsAt, waiting_for}
use Rattle.hub_handles.specs.Taking.{HasLooked, HasPending, Takes, TakesFrom, TakesOne}
use Rattle.hub_handles.proofs.Hearings.{hears_none, hears_on, hears_looked}
use Rattle.hub_handles.proofs.Looks.{same_ticket, same_ticket_through}

-- ---- looks

looked_self : (s : Subscription) → HasLooked s s
looked_self s = record { same = same_ticket s; next = refl; got = refl }

looked_through : (a b c : Subscription) → HasLooked a b → HasLooked b c → HasLooked a c
looked_through a b c p q = record { same = same_ticket_through a b c p.same q.same; next = q.next ∙ p.next; got = q.got ∙ p.got }

-- ---- takes

takes_idle : (most : ℕ) (old new : Subscription) (reply : Reply) → TakesOne old (Err reply) new → Takes most old reply new
takes_idle most old new answer.Nothing takes = inl (record { same = takes.same; shows = takes.shows })
takes_idle most old new answer.End takes = inl (record { same = takes.same; shows = takes.shows })
takes_idle most old new answer.Evicted takes = inl (record { same = takes.same; shows = takes.shows })
takes_idle most old new reply takes = absurd takes

due_idle : (old new looked : Subscription) (reply : Reply) → TakesOne old (Err reply) new → IsDue reply looked
due_idle old new looked answer.Nothing takes = tt
due_idle old new looked answer.End takes = tt
due_idle old new looked answer.Evicted takes = tt
due_idle old new looked reply takes = absurd takes

due_pending : (looked : Subscription) (reply : Reply) → HasPending looked → IsDue reply looked
due_pending looked answer.Done some = tt
due_pending looked (answer.Number n) some = tt
due_pending looked (answer.State status) some = tt
due_pending looked (answer.About about) some = tt
due_pending looked (answer.Got letters) some = some
due_pending looked (answer.Hit letters) some = tt
due_pending looked answer.Nothing some = tt
due_pending looked answer.End some = tt
due_pending looked answer.Evicted some = tt
due_pending looked (answer.Yes numbers) some = tt
due_pending looked answer.Never some = tt
due_pending looked answer.Late some = tt
due_pending looked (answer.Listed names) some = tt
due_pending looked (answer.No refusal) some = tt

-- nothing waited
pub waits_idle : (old new : Subscription) (reply : Reply) → TakesOne old (Err reply) new → TakesWaiting old reply new
waits_idle old new reply takes = record { looked = old; looks = looked_self old; takes = takes_idle _ old new reply takes; due = due_idle old new old reply takes }

-- so many waited, and as many of them as a reply shows were taken
pub waits_some : (old looked new : Subscription) (waiting count : ℕ) (reply : Reply) → HasLooked old looked → (waiting ≡ waiting_for looked) × HasPending looked → count ≡ min waiting MOST_GATHERED
    → TakesFrom count looked reply new → TakesWaiting old reply new
waits_some old looked new waiting count reply looks waits is takes = record {
  looked = looked;
  looks = looks;
  takes = inl (subst (λ (n : ℕ). TakesFrom n looked reply new) (is ∙ ap (λ (n : ℕ). min n MOST_GATHERED) waits.0) takes);
  due = due_pending looked reply waits.1;
}

pub waits_lacking : (old looked : Subscription) → HasLooked old looked → HasPending looked → TakesWaiting old (answer.No no.Memory) looked
waits_lacking old looked looks some = record { looked = looked; looks = looks; takes = inr (record { looked = looked_self looked; waits = some; refused = refl }); due = tt }

pub waits_after : (old looked new : Subscription) (reply : Reply) → HasLooked old looked → TakesWaiting looked reply new → TakesWaiting old reply new
waits_after old looked new reply looks t = record { looked = t.looked; looks = looked_through old looked t.looked looks t.looks; takes = t.takes; due = t.due }

-- ---- polls

quietly_through : (a b c : SessionListener) → HearsQuietly a b → HearsQuietly b c → HearsQuietly a c
quietly_through a b c p q = (p.0 ++ q.0, hears_on a b c p.0 q.0 Quiet p.1 q.1)

last_if_some : (h : SessionListener) (reply : Reply) → reply ≢ answer.Nothing → IsLast reply h
last_if_some h answer.Done some = tt
last_if_some h (answer.Number n) some = tt
last_if_some h (answer.State status) some = tt
last_if_some h (answer.About about) some = tt
last_if_some h (answer.Got letters) some = tt
last_if_some h (answer.Hit letters) some = tt
last_if_some h answer.Nothing some = absurd (some refl)
last_if_some h answer.End some = tt
last_if_some h answer.Evicted some = tt
last_if_some h (answer.Yes numbers) some = tt
last_if_some h answer.Never some = tt
last_if_some h answer.Late some = tt
last_if_some h (answer.Listed names) some = tt
last_if_some h (answer.No refusal) some = tt

polls_here : (old new : SessionListener) (reply : Reply) → length old.listener.gathered ≤ MOST_GATHERED → Polls old reply new → IsLast reply new → PollsOn old reply new
polls_here old new reply fits polls last = record { polled = old; quietly = ([], hears_none old old.repeats fits); polls = polls; last = last }

-- the first poll's reply is told
pub polls_some : (old new : SessionListener) (reply : Reply) → length old.listener.gathered ≤ MOST_GATHERED → reply ≢ answer.Nothing → Polls old reply new → PollsOn old reply new
polls_some old new reply fits some polls = polls_here old new reply fits polls (last_if_some new reply some)

pub polls_none : (old new : SessionListener) → length old.listener.gathered ≤ MOST_GATHERED → HasRoom new → Polls old answer.Nothing new → PollsOn old answer.Nothing new
polls_none old new fits room polls = polls_here old new answer.Nothing fits polls (room, stops polls.2)
  where
    stops : (HasRoom new × Stops answer.Nothing new) ⊎ ((MOST_GATHERED ≤ length new.listener.gathered) × (new.held ≡ None)) → Stops answer.Nothing new
    stops (inl p) = p.1
    stops (inr p) = (let full = p.0 in let few = room in absurd (omega arith))

-- it gathered as much as may be, and a second poll says so
pub polls_full : (old new : SessionListener) → MOST_GATHERED ≤ length new.listener.gathered → Polls old answer.Nothing new → PollsOn old (answer.No no.Overlong) new
polls_full old new full polls = record { polled = new; quietly = polls.1; polls = inl (refl, full, refl); last = tt }

-- the listener b only looked and is c now
pub record LooksOn (b c : SessionListener) : Type 0 where
  pub looked : HasLooked b.subscription c.subscription
  pub listener : c.listener ≡ b.listener
  pub mode : c.mode ≡ b.mode
  pub held : c.held ≡ b.held

quietly_looked : (b c : SessionListener) → HasRoom b → LooksOn b c → HearsQuietly b c
quietly_looked b c room l = ([], hears_looked b c l.looked l.mode l.listener l.held b.repeats (omega arith))

-- after `none` it awaited more, and polled on
pub polls_further : (a b c d : SessionListener) (reply : Reply) → PollsOn a answer.Nothing b → LooksOn b c → PollsOn c reply d → PollsOn a reply d
polls_further a b c d reply p l q = record {
  polled = q.polled;
  quietly = quietly_through a c q.polled (quietly_through a b c (quietly_through a p.polled b p.quietly p.polls.1) (quietly_looked b c p.last.0 l)) q.quietly;
  polls = q.polls;
  last = q.last;
}

-- after `none` it awaited more, and none came
pub polls_late : (a b c : SessionListener) → PollsOn a answer.Nothing b → LooksOn b c → HasNoneToTake c.subscription → PollsOn a answer.Nothing c
polls_late a b c p l none =
    let room : HasRoom c = subst (λ (n : ℕ). n < MOST_GATHERED) (sym (ap (λ k. length k.gathered) l.listener)) p.last.0 in
    let stops : Stops answer.Nothing c = (l.held ∙ p.last.1.0, none) in record {
      polled = p.polled;
      quietly = p.quietly;
      polls = (p.polls.0, quietly_through p.polled b c p.polls.1 (quietly_looked b c p.last.0 l), inl (room, stops));
      last = (room, stops);
    }

-- ---- the listener under a number

pub tells_here : (old new : Handles) (id : ℕ) (before after : SessionListener) (reply : Reply) → Some before ≡ listener_of old id → PollsOn before reply after
    → listener_of new id ≡ left_by reply after → ((other : ℕ) → nat_eq id other ≡ false → listener_of new other ≡ listener_of old other)
    → new.subscriptions.entries ≡ old.subscriptions.entries → new.given ≡ old.given → TellsAt old id reply new
tells_here old new id before after reply held polls kept others subscriptions given =
    inr (inl (record { under = record { before = before; after = after; held = sym held; step = polls; kept = kept; others = others }; subscriptions = subscriptions; given = given }))

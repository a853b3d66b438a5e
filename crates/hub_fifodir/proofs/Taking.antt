-- A ticket's calls, from step to step: m0 before, m1 with the lock, m3 after.
use Rattle.std.proofs.Common.{◌≡◌, ◌≢◌, ℕ, suc, ◌+◌, ◌-◌, ◌<◌, ◌≤◌, ◌&&◌, Bool, true, false, if◌then◌else◌, List, [], ◌∷◌, ◌++◌, length, take, drop, min, Option, Some, None, Ok, sym, refl, ap, ◌∙◌, subst, inl, inr, arith, length-append, length-drop, Result, IsOk}
use Rattle.std.proofs.lemmas.Bool.{cases_Bool}
use Rattle.std.proofs.lemmas.List.{length-take-le}
use Rattle.hub_record.specs.declared.Event.{Event}
use Rattle.hub_record.specs.declared.NoId.{NoId}
use Rattle.hub_record.specs.declared.Taken.{Taken}
use Rattle.hub_record.specs.declared.Taken.TheVariants.{Got, Nothing, End, Evicted}
use Rattle.hub_record.specs.World.{World, Subscription, is_slow, evicts, is_evicted, subscription_in, with_changed, moved_on, count_to_take, as_cancelled, new_subscription, after_subscribe, take_reply, reply_for, take_events, moved_for, after_take, after_take_for, cancel_reply, cancel_for, after_cancel, after_cancel_for}
use Rattle.hub_fifodir.specs.declared.views.Book.{Book}
use Rattle.hub_fifodir.specs.declared.views.Sight.{Sight}
use Rattle.hub_fifodir.specs.declared.views.View.{View}
use Rattle.hub_fifodir.specs.declared.views.Role.{Role}
use Rattle.hub_fifodir.specs.declared.views.Role.TheVariants.{Visitor, Ticket}
use Rattle.hub_fifodir.specs.declared.views.Taking.{Taking}
use Rattle.hub_fifodir.specs.declared.locked.Locked.{Locked}
use Rattle.hub_fifodir.specs.Events.{slice}
use Rattle.hub_fifodir.specs.Locks.{RepresentsWorld, is_current, KeepsPublishers}
use Rattle.hub_fifodir.specs.Rule.{IsSane, IsGiven, IsBounded, cursor_of, cursor_if, book_of, IsBehind, IsSound}
use Rattle.hub_fifodir.specs.Steps.{M, Locks, Changes, Gives, IsInBook, IsTaker, view_at_rest, taker, new_taker, taker_after, taking_of, got_of, as_gone}
use Rattle.hub_fifodir.specs.Passes.{is_evicted_by}
use Rattle.hub_record.proofs.Taking.{AnswerShows, shows_by, answered}
use Rattle.hub_fifodir.proofs.Logs.{slice_none, slice_join}
use Rattle.hub_record.proofs.Cursors.{length-changed}
use Rattle.hub_fifodir.proofs.Subscriptions.{found_changed, found_stopped, found_else, found_new, found_old, found_active, next_of, cursor_found, subscription_of}
use Rattle.hub_fifodir.proofs.Publishing.{open_when, closed_when}
use Rattle.hub_fifodir.proofs.Rests.{none_between, bounded_after}

-- the same publishers are current, so only numbers that were given are
still_low : (b b' : Locked) → IsBounded (book_of b) → KeepsPublishers b b' → (n : ℕ) → is_current b'.active.keys n ≡ true → IsGiven n b'.given
still_low b b' low others n at = let g = low.active n (sym (ap (λ (l : List ℕ). is_current l n) others.0) ∙ at) in let e = others.1 in (g.0, let a = g.1 in omega arith)

-- ---- a visitor becomes the ticket with the next id

pub rests_as_ticket : (m : M) (b b' : Locked) → m.0.role ≡ Visitor → m.0.held ≡ Some (book_of b) → IsBounded (book_of b) → (h : IsBehind m.0.rules m.0.sight.seen m.0.sight.closed b) → (given : ℕ × ℕ)
    → RepresentsWorld b' (after_subscribe h.world (Ok given)) → KeepsPublishers b b' → Gives m b' (view_at_rest m.0 (new_taker b' m.0.sight.seen))
rests_as_ticket m b b' role held low h given after others =
    let k : Book = book_of b in let w : World = h.world in let w' : World = after_subscribe h.world (Ok given) in
    let i0 : ℕ = b'.kept.value.given in let len : ℕ = length m.0.sight.seen in
    let count : length (w.subscriptions ++ new_subscription w ∷ []) ≡ length w.subscriptions + 1 = length-append w.subscriptions (new_subscription w ∷ []) in
    let up : b'.kept.value.given ≡ b.kept.value.given + 1 = after.for.given ∙ count ∙ ap (λ (n : ℕ). n + 1) (sym h.for.for.given) in
    let place : i0 ≡ 1 + length w.subscriptions = let e : b.kept.value.given ≡ length w.subscriptions = h.for.for.given in omega arith in
    let own : cursor_of b'.kept.value.cursors i0 ≡ Some len =
    cursor_found b'.kept.value w' i0 after.for ∙ ap next_of (found_new 1 w.subscriptions (new_subscription w) i0 place refl) ∙ ap (λ (l : List Event). Some (length l)) h.events in
    let numbers : b'.given ≡ b.given = others.1 in (
      k,
      new_taker b' m.0.sight.seen,
      i0,
      suc k.numbers,
      held,
      refl,
      record { world = w'; for = after; events = h.events; closed = h.closed; kind = h.kind; limits = h.limits },
      subst (λ (r : Role). Changes m.0.sight.seen r (new_taker b' m.0.sight.seen) k (book_of b') i0 (suc k.numbers)) (sym role) record {
        ids_up = omega arith;
        numbers_up = omega arith;
        cursors = λ i ne. cursor_found b'.kept.value w' i after.for ∙ ap next_of (found_old 1 w.subscriptions (new_subscription w) i (λ e. ne (e ∙ sym place))) ∙ sym (cursor_found b.kept.value w i h.for.for);
        active = λ n ne. ap (λ (l : List ℕ). is_current l n) others.0;
        live = tt;
        live' = tt;
        own_id = λ f g j x. inl (omega arith);
        own_number = λ f g j x. inl (omega arith);
        id_kept = λ i x. absurd x;
        number_kept = λ n x. absurd x;
        id_given = λ i a c. (omega arith, omega arith);
        number_given = λ n a c. absurd (none_between n b.given a (omega arith));
        bounded = bounded_after b' w' after (still_low b b' low others);
        fits = λ f g j x at _. record {
          its_seat = at;
          given = (omega arith, omega arith);
          sane = (omega arith, omega arith, sym (slice_none len m.0.sight.seen));
          cursor = own;
        };
      },
    )

-- the ticket that was made
pub is_new_taker : (m m3 : M) (b' : Locked) (id mark : ℕ) → id ≡ b'.kept.value.given → mark ≡ length m.0.sight.seen → IsSound m.0.rules m.0.sight.seen → m3 ≡ (view_at_rest m.0 (new_taker b' m.0.sight.seen), []) → IsTaker m3 id mark mark
is_new_taker m m3 b' id mark is at ok e = subst (λ (x : M). IsTaker x id mark mark) (sym e) record {
  role = λ i. taker (sym is i) (sym at i) (sym at i) [];
  held = refl;
  out = refl;
  met = refl;
  began = omega arith;
  ended = omega arith;
  got = sym (slice_none mark m.0.sight.seen);
  within = ok.0;
}

-- the id and the mark that a subscription is given
pub id_given : (b' : Locked) (w : World) (given : ℕ × ℕ) → given ≡ (length w.subscriptions + 1, length w.events) → RepresentsWorld b' (after_subscribe w (Ok given)) → given.0 ≡ b'.kept.value.given
id_given b' w given e after = ap (λ (p : ℕ × ℕ). p.0) e ∙ sym (after.for.given ∙ length-append w.subscriptions (new_subscription w ∷ []))

module _ (m0 m1 : M) (id mark next : ℕ) (b : Locked) (w : IsTaker m0 id mark next) (h : Locks book_of IsBehind IsSound m0.0 m1.0 b) where
  role_is : m1.0.role ≡ taker id mark next (got_of m0.0.role)
  role_is = ap (λ (v : View). v.role) h.renews.is ∙ w.role

  held_is : m1.0.held ≡ Some (book_of b)
  held_is = ap (λ (v : View). v.held) h.renews.is

  in_book : IsGiven id b.kept.value.given × (cursor_of b.kept.value.cursors id ≡ Some next)
  in_book = subst (IsInBook (book_of b)) role_is h.in_book

  sane_is : IsSane m1.0.sight.seen (taker id mark next (got_of m0.0.role))
  sane_is = subst (IsSane m1.0.sight.seen) role_is h.renews.sane

  -- its subscription
  subscribed : (s : Subscription) × (subscription_in h.behind.world id ≡ Some s) × (s.next ≡ next)
  subscribed = subscription_of (subscription_in h.behind.world id) next (sym (cursor_found b.kept.value h.behind.world id h.behind.for.for) ∙ in_book.1)

  pub rules_still : (m3 : M) → m3 ≡ (view_at_rest m1.0 m1.0.role, []) → m3.0.rules ≡ m1.0.rules
  rules_still m3 e = ap (λ (m : M). m.0.rules) e

  pub got_still : (m3 : M) → m3 ≡ (view_at_rest m1.0 m1.0.role, []) → got_of m3.0.role ≡ got_of m0.0.role
  got_still m3 e = ap (λ (m : M). got_of m.0.role) e ∙ ap got_of role_is

  -- ---- a call that makes `f` of its subscription

  module _ (b' : Locked) (f : Subscription → Subscription) (after : RepresentsWorld b' (with_changed h.behind.world id f)) (others : KeepsPublishers b b') where
    cursor_now : (s : Option Subscription) → subscription_in (with_changed h.behind.world id f) id ≡ s → cursor_of b'.kept.value.cursors id ≡ next_of s
    cursor_now s e = cursor_found b'.kept.value (with_changed h.behind.world id f) id after.for ∙ ap next_of e

    -- the ticket as it is then, with its cursor, or none if it is gone
    gives : (next' : ℕ) (got' : List Event) (gone : Bool) → let t : Taking = record { id = id; mark = mark; next = next'; got = got'; gone = gone } in
        IsSane m1.0.sight.seen (Ticket t) → cursor_of b'.kept.value.cursors id ≡ cursor_if gone next' → Gives m1 b' (view_at_rest m1.0 (Ticket t))
    gives next' got' gone sane cursor =
        let t : Taking = record { id = id; mark = mark; next = next'; got = got'; gone = gone } in
        let numbers : b'.given ≡ b.given = others.1 in
        let ids : b'.kept.value.given ≡ b.kept.value.given = after.for.given ∙ length-changed f 1 h.behind.world.subscriptions id ∙ sym h.behind.for.for.given in (
          book_of b,
          Ticket t,
          id,
          suc b.given,
          held_is,
          refl,
          record { world = with_changed h.behind.world id f; for = after; events = h.behind.events; closed = h.behind.closed; kind = h.behind.kind; limits = h.behind.limits },
          subst (λ (r : Role). Changes m1.0.sight.seen r (Ticket t) (book_of b) (book_of b') id (suc b.given)) (sym role_is) record {
            ids_up = omega arith;
            numbers_up = omega arith;
            cursors = λ i ne. cursor_found b'.kept.value (with_changed h.behind.world id f) i after.for ∙ ap next_of (found_else f 1 h.behind.world.subscriptions id i ne) ∙ sym (cursor_found b.kept.value h.behind.world i h.behind.for.for);
            active = λ n ne. ap (λ (l : List ℕ). is_current l n) others.0;
            live = tt;
            live' = tt;
            own_id = λ f g j x. inr x.its_seat;
            own_number = λ f g j x. inl (omega arith);
            id_kept = λ i x. x;
            number_kept = λ n x. absurd x;
            id_given = λ i a c. absurd (none_between i b.kept.value.given a (omega arith));
            number_given = λ n a c. absurd (none_between n b.given a (omega arith));
            bounded = bounded_after b' (with_changed h.behind.world id f) after (still_low b b' h.bounded others);
            fits = λ f g j x _ _. record { its_seat = x.its_seat; given = (x.given.0, let q = x.given.1 in omega arith); sane = sane; cursor = cursor };
          },
        )

  -- ---- a take

  -- whether it is evicted
  abbrev pub out : Bool
  out = is_evicted_by m1.0.rules m1.0.sight next

  out_is : is_evicted h.behind.world subscribed.0.next ≡ out
  out_is = λ i. evicts (h.behind.limits i).policy && is_slow (h.behind.limits i).waiting (length (h.behind.events i)) (subscribed.2 i)

  -- how many events were taken
  abbrev pub count : ℕ → ℕ
  count most = if out then 0 else min most (length m1.0.sight.seen - next)

  count_is : (most : ℕ) → count_to_take h.behind.world subscribed.0 most ≡ count most
  count_is most = λ i. if out_is i then 0 else min most (length (h.behind.events i) - subscribed.2 i)

  count_within : (most : ℕ) → count most ≤ length m1.0.sight.seen - next
  count_within most = elim (cases_Bool out) [ inl o ↦ simp o (omega arith) | inr u ↦ simp u (omega arith) ]

  pub count_active : (most : ℕ) → out ≡ false → count most ≡ min most (length m1.0.sight.seen - next)
  count_active most u = ap (λ (b : Bool). if b then 0 else min most (length m1.0.sight.seen - next)) u

  shows : (most : ℕ) (answer : Result Taken NoId) (x : Taken) → answer ≡ take_reply h.behind.world id most → answer ≡ Ok x → AnswerShows h.behind.world most subscribed.0 (Ok x)
  shows most answer x e is = shows_by h.behind.world most subscribed.0 (Ok x) (sym is ∙ e ∙ ap (reply_for h.behind.world most) subscribed.1)

  pub is_answered : (most : ℕ) (answer : Result Taken NoId) → answer ≡ take_reply h.behind.world id most → IsOk answer
  is_answered most answer e = answered h.behind.world most subscribed.0 answer (shows_by h.behind.world most subscribed.0 answer (e ∙ ap (reply_for h.behind.world most) subscribed.1))

  pub on_got : (most n : ℕ) (answer : Result Taken NoId) → answer ≡ take_reply h.behind.world id most → answer ≡ Ok (Got n) → (next < length m1.0.sight.seen) × (n ≡ count most) × (out ≡ false)
  on_got most n answer e is = let t = shows most answer (Got n) e is in
      let long : length h.behind.world.events ≡ length m1.0.sight.seen = ap length h.behind.events in let at : subscribed.0.next ≡ next = subscribed.2 in let lt = t.0 in
      (omega arith, t.1 ∙ count_is most, sym out_is ∙ t.2)

  -- nothing was taken, for each of the other answers
  none_taken : (most : ℕ) → next ≡ length m1.0.sight.seen → count most ≡ 0
  none_taken most at = let within = count_within most in omega arith

  pub on_nothing : (most : ℕ) (answer : Result Taken NoId) → answer ≡ take_reply h.behind.world id most → answer ≡ Ok Nothing → (next ≡ length m1.0.sight.seen) × (m1.0.sight.closed ≡ 0) × (count most ≡ 0)
  on_nothing most answer e is = let t = shows most answer Nothing e is in
      let long : length h.behind.world.events ≡ length m1.0.sight.seen = ap length h.behind.events in let at : subscribed.0.next ≡ next = subscribed.2 in let le = t.0 in let in_it = sane_is.1 in
      (omega arith, open_when m1.0.sight.closed h.behind.world.closed h.behind.closed t.1, none_taken most (omega arith))

  pub on_end : (most : ℕ) (answer : Result Taken NoId) → answer ≡ take_reply h.behind.world id most → answer ≡ Ok End → (next ≡ length m1.0.sight.seen) × (m1.0.sight.closed ≢ 0) × (count most ≡ 0)
  on_end most answer e is = let t = shows most answer End e is in
      let long : length h.behind.world.events ≡ length m1.0.sight.seen = ap length h.behind.events in let at : subscribed.0.next ≡ next = subscribed.2 in let le = t.0 in let in_it = sane_is.1 in
      (omega arith, closed_when m1.0.sight.closed h.behind.world.closed h.behind.closed t.1, none_taken most (omega arith))

  pub on_evicted : (most : ℕ) (answer : Result Taken NoId) → answer ≡ take_reply h.behind.world id most → answer ≡ Ok Evicted → (out ≡ true) × (count most ≡ 0)
  on_evicted most answer e is = let t : out ≡ true = sym out_is ∙ shows most answer Evicted e is in
      (t, ap (λ (b : Bool). if b then 0 else min most (length m1.0.sight.seen - next)) t)

  events_moved : (most : ℕ) → take_events h.behind.world id most ≡ slice next (next + count most) m1.0.sight.seen
  events_moved most = let k : next + count most - next ≡ count most = omega arith in
      ap (moved_for h.behind.world most) subscribed.1 ∙ (λ i. take (count_is most i) (drop (subscribed.2 i) (h.behind.events i))) ∙ ap (λ (n : ℕ). take n (drop next m1.0.sight.seen)) (sym k)

  length_moved : (most : ℕ) → length (slice next (next + count most) m1.0.sight.seen) ≡ count most
  length_moved most = let k : next + count most - next ≡ count most = omega arith in
      let room : count most ≤ length (drop next m1.0.sight.seen) = omega (arith, count_within most, length-drop next m1.0.sight.seen) in
      ap (λ (n : ℕ). length (take n (drop next m1.0.sight.seen))) k ∙ length-take-le (count most) (drop next m1.0.sight.seen) room

  pub filled_moved : (most : ℕ) (out out' : List Event) → out' ≡ take_events h.behind.world id most ++ drop (length (take_events h.behind.world id most)) out
      → out' ≡ slice next (next + count most) m1.0.sight.seen ++ drop (count most) out
  filled_moved most out out' e = e ∙ (λ i. events_moved most i ++ drop (length (events_moved most i)) out) ∙ ap (λ (n : ℕ). slice next (next + count most) m1.0.sight.seen ++ drop n out) (length_moved most)

  module _ (b' : Locked) (most : ℕ) (after : RepresentsWorld b' (after_take h.behind.world id most)) (others : KeepsPublishers b b') where
    is_current' : RepresentsWorld b' (with_changed h.behind.world id (moved_on h.behind.world most))
    is_current' = subst (λ (o : Option Subscription). RepresentsWorld b' (after_take_for h.behind.world id most o)) subscribed.1 after

    cursor_own : cursor_of b'.kept.value.cursors id ≡ Some (next + count most)
    cursor_own = let s = subscribed in let subs = h.behind.world.subscriptions in let f = moved_on h.behind.world most in
        cursor_now b' f is_current' others (Some (f s.0)) (found_changed f 1 subs id s.0 s.1 (found_active 1 subs id s.0 s.1)) ∙ (λ i. Some (s.2 i + count_is most i))

    -- nothing was taken
    pub rests_still : count most ≡ 0 → Gives m1 b' (view_at_rest m1.0 m1.0.role)
    rests_still zero = let none : next + count most ≡ next = omega arith in
        subst (λ (r : Role). Gives m1 b' (view_at_rest m1.0 r)) (sym role_is)
        (gives b' (moved_on h.behind.world most) is_current' others next (got_of m0.0.role) false sane_is (cursor_own ∙ ap (λ (n : ℕ). Some n) none))

    within_moved : (n : ℕ) → n ≡ count most → next + n ≤ length m1.0.sight.seen
    within_moved n is = let p : next ≤ length m1.0.sight.seen = sane_is.1 in let within = count_within most in omega arith

    got_longer : (n : ℕ) → got_of m0.0.role ++ slice next (next + n) m1.0.sight.seen ≡ slice mark (next + n) m1.0.sight.seen
    got_longer n = ap (λ (l : List Event). l ++ slice next (next + n) m1.0.sight.seen) sane_is.2 ∙ slice_join mark next (next + n) m1.0.sight.seen sane_is.0 (omega arith)

    -- n events were taken
    pub rests_moved : (n : ℕ) → n ≡ count most → Gives m1 b' (view_at_rest m1.0 (taker_after m1.0.sight.seen (taking_of m1.0.role) n))
    rests_moved n is = let le = sane_is.0 in
        subst (λ (r : Role). Gives m1 b' (view_at_rest m1.0 (taker_after m1.0.sight.seen (taking_of r) n))) (sym role_is)
        (gives b' (moved_on h.behind.world most) is_current' others (next + n) (got_of m0.0.role ++ slice next (next + n) m1.0.sight.seen) false
        (omega arith, within_moved n is, got_longer n) (cursor_own ∙ ap (λ (k : ℕ). Some (next + k)) (sym is)))

    module _ (n : ℕ) (is : n ≡ count most) (m3 : M) (e3 : m3 ≡ (view_at_rest m1.0 (taker_after m1.0.sight.seen (taking_of m1.0.role) n), [])) where
      now : m3 ≡ (view_at_rest m1.0 (taker id mark (next + n) (got_of m0.0.role ++ slice next (next + n) m1.0.sight.seen)), [])
      now = e3 ∙ ap (λ (r : Role). (view_at_rest m1.0 (taker_after m1.0.sight.seen (taking_of r) n), [])) role_is

      pub moved_taker : IsTaker m3 id mark (next + n)
      moved_taker = let le = sane_is.0 in subst (λ (m : M). IsTaker m id mark (next + n)) (sym now) record {
        role = refl;
        held = refl;
        out = refl;
        met = refl;
        began = omega arith;
        ended = within_moved n is;
        got = got_longer n;
        within = h.renews.sound_is.0;
      }

      pub sight_moved : m3.0.sight ≡ m1.0.sight
      sight_moved = ap (λ (m : M). m.0.sight) now

      pub rules_moved : m3.0.rules ≡ m1.0.rules
      rules_moved = ap (λ (m : M). m.0.rules) now

      pub got_moved : got_of m3.0.role ≡ got_of m0.0.role ++ slice next (next + n) m3.0.sight.seen
      got_moved = ap (λ (m : M). got_of m.0.role) now ∙ ap (λ (s : Sight). got_of m0.0.role ++ slice next (next + n) s.seen) (sym sight_moved)

  -- ---- a cancel

  pub is_cancelled : (answer : Result (Unit {0}) NoId) → answer ≡ cancel_reply h.behind.world id → IsOk answer
  is_cancelled answer e = subst IsOk (sym (e ∙ ap cancel_for subscribed.1)) refl

  module _ (b' : Locked) (after : RepresentsWorld b' (after_cancel h.behind.world id)) (others : KeepsPublishers b b') where
    represents_next : RepresentsWorld b' (with_changed h.behind.world id as_cancelled)
    represents_next = subst (λ (o : Option Subscription). RepresentsWorld b' (after_cancel_for h.behind.world id o)) subscribed.1 after

    pub rests_cancelled : Gives m1 b' (view_at_rest m1.0 (as_gone m1.0.role))
    rests_cancelled = let none = found_stopped 1 h.behind.world.subscriptions id subscribed.0 subscribed.1 in
        subst (λ (r : Role). Gives m1 b' (view_at_rest m1.0 (as_gone r))) (sym role_is)
        (gives b' as_cancelled represents_next others next (got_of m0.0.role) true sane_is (cursor_now b' as_cancelled represents_next others None none))

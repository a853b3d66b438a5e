-- Posts that are kept and that catch up, one by one and all together, and the states that they name.
use Rattle.std.proofs.Common.{◌≡◌, ℕ, suc, ◌+◌, ◌<◌, ◌≤◌, Bool, true, false, Some, None, List, [], ◌∷◌, ◌++◌, if◌then◌else◌, inl, inr, append-nil, length, get_or, slice_set, refl, sym, subst, ⊎_elim, ◌∙◌, ap, append_assoc, arith, get_or-set_other}
use Rattle.std.proofs.Math.Bool.{and-false}
use Rattle.std.specs.Prelude.{All, Any}
use Rattle.std.specs.List.{list_all, list_any}
use Rattle.std.proofs.lemmas.Bool.{cases_Bool, cases_eq}
use Rattle.std.proofs.lemmas.List.{length-set, length-map, take-map, get_or_default}
use Rattle.std.proofs.lemmas.List.Elements.{All-nil, All-cons}
use Rattle.std.proofs.lemmas.Grind.{get_or-set_at}
use Rattle.hub_wait.specs.declared.post.Post.{Post}
use Rattle.hub_letters.specs.declared.flags.Flags.{Flags}
use Rattle.hub_letters.specs.declared.want.Want.{Want}
use Rattle.hub_letters.specs.declared.want.Want.TheVariants.{Restarted, RestartedReady}
use Rattle.hub_letters.specs.Flags.{flags_of}
use Rattle.hub_letters.specs.Wants.{is_met}
use Rattle.hub_letters.specs.declared.span.Span.{Span}
use Rattle.hub_letters.specs.declared.span.Span.TheVariants as span
use Rattle.hub_wait.specs.declared.tally.Verdict.TheVariants.{Yes, Never}
use Rattle.hub_wait.specs.Verdicts.{verdict, is_bar}
use Rattle.hub_wait.specs.Watching.{is_met_at, is_lost_at}
use Rattle.hub_record.specs.World.{letters}
use Rattle.hub_wait.specs.Histories.{has_fall_between}
use Rattle.hub_wait.specs.Posts.{IsKept, HasCaughtUp, HadState, seen_of, watch_of}
use Rattle.hub_wait.specs.Waits.{AreKept, HadStates, watches_of}

IsKept-refl : (p : Post) → IsKept p p
IsKept-refl p = record {
  fifodir = refl;
  mark = refl;
  want = refl;
  notifies = refl;
  ended = λ e. e;
  since = refl;
  fell = λ e. e;
  marked = p.reads.marked;
  forward = omega arith;
  taken = omega arith;
  seen = ([], sym (append-nil _));
  follows = p.reads.follows;
  falls = p.reads.falls;
  misses_no_fall = p.reads.misses_no_fall;
}

IsKept-trans : (a b c : Post) → IsKept a b → IsKept b c → IsKept a c
IsKept-trans a b c f g =
    let forward = f.forward in let further = g.forward in let taken = f.taken in let more = g.taken in
    record {
      fifodir = g.fifodir ∙ f.fifodir;
      mark = g.mark ∙ f.mark;
      want = g.want ∙ f.want;
      notifies = g.notifies ∙ f.notifies;
      ended = λ e. g.ended (f.ended e);
      since = g.since ∙ f.since;
      fell = λ e. g.fell (f.fell e);
      marked = g.marked;
      forward = omega (arith, forward, further);
      taken = omega (arith, taken, more);
      seen = (f.seen.0 ++ g.seen.0, g.seen.1 ∙ ap (λ z. z ++ g.seen.0) f.seen.1 ∙ append_assoc (seen_of a) f.seen.0 g.seen.0);
      follows = g.follows;
      falls = g.falls;
      misses_no_fall = g.misses_no_fall;
    }

pub AreKept-refl : (posts : List Post) → AreKept posts posts
AreKept-refl posts = record { count = refl; each = λ k d h. IsKept-refl (get_or posts k d) }

pub AreKept-trans : (a b c : List Post) → AreKept a b → AreKept b c → AreKept a c
AreKept-trans a b c f g = record {
  count = g.count ∙ f.count;
  each = λ k d h. IsKept-trans _ _ _ (f.each k d h) (g.each k d (subst (λ n. k < n) (sym f.count) h));
}

-- one more post is kept
pub AreKept-set : (old posts : List Post) (i : ℕ) (now was : Post) → i < length old → AreKept old posts → IsKept (get_or posts i was) now → AreKept old (slice_set posts i now)
AreKept-set old posts i now was below f one = let inside : i < length posts = subst (λ n. i < n) (sym f.count) below in record {
  count = length-set posts i now ∙ f.count;
  each = λ k d h. ⊎_elim
      (λ (e : k ≡ i).
      let here : get_or posts i was ≡ get_or posts k d = get_or_default posts i was d inside ∙ ap (λ n. get_or posts n d) (sym e) in
      subst (IsKept (get_or old k d)) (sym (get_or-set_at posts i k now d e inside)) (IsKept-trans _ _ _ (f.each k d h) (subst (λ p. IsKept p now) here one)))
      (λ ne. subst (IsKept (get_or old k d)) (sym (get_or-set_other posts i k now d ne)) (f.each k d h))
      (cases_eq k i);
}

-- ---- posts that catch up, one after another

-- those below i have caught up, and the others are as they were
pub record CaughtUpBelow (i : ℕ) (old posts : List Post) : Type 0 where
  pub done : (k : ℕ) (d : Post) → k < length old → k < i → HasCaughtUp (get_or old k d) (get_or posts k d)
  pub left : (k : ℕ) (d : Post) → i ≤ k → get_or posts k d ≡ get_or old k d

pub CaughtUpBelow-none : (posts : List Post) → CaughtUpBelow 0 posts posts
CaughtUpBelow-none posts = record { done = λ k d h l. absurd (omega arith); left = λ k d l. refl }

pub CaughtUpBelow-set : (old posts : List Post) (i : ℕ) (now was : Post) → i < length old → length posts ≡ length old → CaughtUpBelow i old posts
    → HasCaughtUp (get_or posts i was) now → CaughtUpBelow (i + 1) old (slice_set posts i now)
CaughtUpBelow-set old posts i now was below count c one = let inside : i < length posts = subst (λ n. i < n) (sym count) below in record {
  done = λ k d h l. ⊎_elim
      (λ (e : k ≡ i).
      let here : get_or posts i was ≡ get_or old k d = get_or_default posts i was d inside ∙ c.left i d (omega arith) ∙ ap (λ n. get_or old n d) (sym e) in
      subst (HasCaughtUp (get_or old k d)) (sym (get_or-set_at posts i k now d e inside)) (subst (λ p. HasCaughtUp p now) here one))
      (λ ne. subst (HasCaughtUp (get_or old k d)) (sym (get_or-set_other posts i k now d ne)) (c.done k d h (omega (arith, ne))))
      (cases_eq k i);
  left = λ k d l. get_or-set_other posts i k now d (λ e. omega arith) ∙ c.left k d (omega arith);
}

-- ---- what a yes names

met_by_fall : (want : Want) (flags : Flags) (notifies : Bool) → is_met want flags notifies false ≡ true → is_met want flags notifies true ≡ true
met_by_fall Restarted flags notifies e = absurd (let z = sym (and-false flags.up) ∙ e in cc)
met_by_fall RestartedReady flags notifies e = absurd (let z = sym (and-false _) ∙ e in cc)
met_by_fall want flags notifies e = e

-- what is met without a fall is met with one
still_met : (want : Want) (flags : Flags) (notifies fell falls : Bool) → (fell ≡ true → falls ≡ true) → is_met want flags notifies fell ≡ true → is_met want flags notifies falls ≡ true
still_met want flags notifies true falls only e = ap (is_met want flags notifies) (only refl) ∙ e
still_met want flags notifies false true only e = met_by_fall want flags notifies e
still_met want flags notifies false false only e = e

had_state : (p : Post) → is_met_at (watch_of p) ≡ true → HadState p
had_state p met =
    let f = p.reads.follows in
    let long = length-map (seen_of p) (λ e. e.letter) in
    let inside = f.within in
    record {
      of = p.of;
      number = (watch_of p).at;
      marked = p.reads.marked;
      begun = p.reads.falls.begun;
      within = omega (arith, long, inside);
      met = ap (λ z. is_met (watch_of p).want z (watch_of p).notifies (has_fall_between (letters (seen_of p)) (watch_of p).since (watch_of p).at)) (sym (f.flags ∙ ap flags_of (take-map _ (watch_of p).at (seen_of p))))
          ∙ still_met (watch_of p).want (watch_of p).flags (watch_of p).notifies (watch_of p).fell _ p.reads.falls.only met;
    }

all_had : (posts : List Post) → list_all is_met_at (watches_of posts) ≡ true → All HadState posts
all_had [] e = All-nil HadState
all_had (p ∷ posts) e =
    elim (cases_Bool (is_met_at (watch_of p))) [
      | inl m ↦ All-cons HadState p posts (had_state p m) (all_had posts (simp m at e))
      | inr n ↦ absurd (let z : false ≡ true = simp n at e in cc)
    ]

any_had : (posts : List Post) → list_any is_met_at (watches_of posts) ≡ true → Any HadState posts
any_had [] e = absurd (let z = e in cc)
any_had (p ∷ posts) e =
    elim (cases_Bool (is_met_at (watch_of p))) [
      | inl m ↦ (0, p, omega arith, refl, had_state p m)
      | inr n ↦ (let (k, q, inside, at, had) = any_had posts (simp n at e) in (suc k, q, omega arith, at, had))
    ]

-- what is no yes yet is never one
no_yes : (never : Bool) → (if never then Some Never else None) ≡ Some Yes → ⊥
no_yes true e = let z : Never ≡ Yes = cc in cc
no_yes false e = cc

pub names_states : (span : Span) (posts : List Post) → verdict span (watches_of posts) ≡ Some Yes → HadStates span posts
names_states span.All posts e =
    elim (cases_Bool (list_all is_met_at (watches_of posts))) [ inl y ↦ all_had posts y | inr n ↦ absurd (no_yes (list_any is_bar (watches_of posts)) (simp n at e)) ]
names_states span.Any posts e =
    elim (cases_Bool (list_any is_met_at (watches_of posts))) [ inl y ↦ any_had posts y | inr n ↦ absurd (no_yes (list_all is_lost_at (watches_of posts)) (simp n at e)) ]

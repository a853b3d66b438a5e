-- A watch and its ticket, after a take.
use Rattle.std.proofs.Common.{◌≡◌, ◌≢◌, ℕ, ◌+◌, ◌-◌, ◌≤◌, Bool, true, false, ◌||◌, ◌&&◌, Option, unwrap_or, inl, inr, List, ◌++◌, take, drop, length, sym, refl, ap, subst, ◌∙◌, arith}
use Rattle.std.proofs.lemmas.Bool.{cases_Bool, ltb-true, lt-ltb}
use Rattle.std.proofs.lemmas.List.{take_all, take-append-le, length-append, length-take-le, length-drop, length-map, drop-take, take-take, drop-map, take-map, map-append}
use Rattle.hub_letters.specs.Marks.{has_fall}
use Rattle.hub_letters.specs.Flags.{flags_of}
use Rattle.hub_record.specs.declared.Event.{Event}
use Rattle.hub_record.specs.declared.Taken.TheVariants.{Got, Evicted}
use Rattle.hub_record.specs.declared.Status.{Status}
use Rattle.hub_record.specs.World.{letters, is_slow, evicts}
use Rattle.hub_fifodir.specs.declared.ticket.Ticket.{Ticket}
use Rattle.hub_fifodir.specs.Events.{StartsWith, slice}
use Rattle.hub_fifodir.specs.Passes.{ticket_mark, ticket_next, ticket_seen, ticket_closed, ticket_sight, ticket_rules, ticket_view, is_evicted_by, is_evicted_at, OnlyLooks, HasTaken, IsStatusOf, slice_after_take}
use Rattle.hub_fifodir.specs.Steps.{Grows}
use Rattle.hub_wait.specs.Watching.{Watching, watching_after_step, renewed_by}
use Rattle.hub_wait.specs.Histories.{ShowsFlagsOf, ShowsFallsOf, MissesNoFall, has_fall_between, IsSlice}
use Rattle.hub_wait.specs.Reading.{Reads}
use Rattle.hub_fifodir.proofs.Publishing.{closed_when}
use Rattle.hub_wait.proofs.Steps.{ShowsFlagsOf-stepped, ShowsFallsOf-stepped, MissesNoFall-stepped, ShowsFallsOf-renewed}

-- ---- evicted tickets

-- an evicted ticket stays evicted
pub stays_evicted : (old new : Ticket) → Grows (ticket_sight old) (ticket_sight new) → ticket_rules new ≡ ticket_rules old → (next : ℕ) → is_evicted_at old next ≡ true → is_evicted_at new next ≡ true
stays_evicted old new grows rules next out =
    let limits = (ticket_rules old).limits in
    let longer = length-append (ticket_seen old) grows.0.0 in
    let long = ap length grows.0.1 in
    elim (cases_Bool (evicts limits.policy)) [
      | inl e ↦ (let slow : is_slow limits.waiting (length (ticket_seen old)) next ≡ true = sym (ap (λ b. b && is_slow limits.waiting (length (ticket_seen old)) next) e) ∙ out in
          let far = ltb-true limits.waiting (length (ticket_seen old) - next) slow in
          ap (λ r. is_evicted_by r (ticket_sight new) next) rules ∙ ap (λ b. b && is_slow limits.waiting (length (ticket_seen new)) next) e
          ∙ lt-ltb limits.waiting (length (ticket_seen new) - next) (omega arith))
      | inr n ↦ absurd (let no : false ≡ true = sym (ap (λ b. b && is_slow limits.waiting (length (ticket_seen old)) next) n) ∙ out in cc)
    ]

-- one that isn't evicted never was
never_evicted : (old new : Ticket) → Grows (ticket_sight old) (ticket_sight new) → ticket_rules new ≡ ticket_rules old → (next : ℕ) → is_evicted_at new next ≡ false → is_evicted_at old next ≡ false
never_evicted old new grows rules next free =
    elim (cases_Bool (is_evicted_at old next)) [
      | inl out ↦ absurd (let z : true ≡ false = sym (stays_evicted old new grows rules next out) ∙ free in cc)
      | inr n ↦ n
    ]

-- ---- a watch and a longer history

same_front : (at : ℕ) (seen longer : List Event) → StartsWith longer seen → at ≤ length (letters seen) → take at (letters longer) ≡ take at (letters seen)
same_front at seen longer on inside =
    ap (λ e. take at (letters e)) on.1 ∙ ap (take at) (map-append _ seen on.0) ∙ take-append-le at (letters seen) (letters on.0) inside

-- a watch follows a history that goes on
pub Follows-append : (w : Watching) (seen longer : List Event) → StartsWith longer seen → ShowsFlagsOf w (letters seen) → ShowsFlagsOf w (letters longer)
Follows-append w seen longer on f =
    let rest = on.0 in
    let is : letters longer ≡ letters seen ++ letters rest = ap letters on.1 ∙ map-append _ seen rest in
    let long : length (letters longer) ≡ length (letters seen) + length (letters rest) = ap length is ∙ length-append (letters seen) (letters rest) in
    let inside = f.within in
    record { within = omega (arith, long, inside); flags = f.flags ∙ ap flags_of (sym (same_front w.at seen longer on inside)) }

-- the same letters fall up to its number
falls_as_before : (w : Watching) (seen longer : List Event) → StartsWith longer seen → w.at ≤ length (letters seen)
    → has_fall_between (letters longer) w.since w.at ≡ has_fall_between (letters seen) w.since w.at
falls_as_before w seen longer on inside = ap (λ t. has_fall (drop w.since t)) (same_front w.at seen longer on inside)

Falls-append : (w : Watching) (seen longer : List Event) → StartsWith longer seen → w.at ≤ length (letters seen) → ShowsFallsOf w (letters seen) → ShowsFallsOf w (letters longer)
Falls-append w seen longer on inside f = record { begun = f.begun; only = λ e. falls_as_before w seen longer on inside ∙ f.only e }

MissesNoFall-append : (w : Watching) (seen longer : List Event) → StartsWith longer seen → w.at ≤ length (letters seen) → MissesNoFall w (letters seen) → MissesNoFall w (letters longer)
MissesNoFall-append w seen longer on inside none = λ e. none (sym (falls_as_before w seen longer on inside) ∙ e)

-- the letters of events from number a on are a slice of the history
length-slice : (seen : List Event) (a n : ℕ) → a + n ≤ length seen → length (letters (take n (drop a seen))) ≡ n
length-slice seen a n h = length-map (take n (drop a seen)) _ ∙ length-take-le n (drop a seen) (omega (arith, length-drop a seen, h))

IsSlice-slice : (seen : List Event) (a n : ℕ) → a + n ≤ length seen → IsSlice (letters seen) a (letters (take n (drop a seen)))
IsSlice-slice seen a n h =
    let many = length-slice seen a n h in
    let all : length (letters seen) ≡ length seen = length-map seen _ in
    record {
      within = omega (arith, many, all, h);
      same = sym (take-map _ n (drop a seen)) ∙ ap (take n) (sym (drop-map _ a seen)) ∙ sym (drop-take a n (letters seen)) ∙ ap (λ k. drop a (take (a + k) (letters seen))) (sym many);
    }

-- what a take has put into the beginning of the slice
front_of_filled : (seen out : List Event) (a n : ℕ) → a + n ≤ length seen → take n (slice a (a + n) seen ++ drop n out) ≡ take n (drop a seen)
front_of_filled seen out a n h =
    let count : a + n - a ≡ n = omega arith in
    let long : length (take n (drop a seen)) ≡ n = length-take-le n (drop a seen) (omega (arith, length-drop a seen, h)) in
    ap (λ k. take n (take k (drop a seen) ++ drop n out)) count
    ∙ take-append-le n (take n (drop a seen)) (drop n out) (omega (arith, long))
    ∙ take-take n n (drop a seen) (omega arith)

Reads-stepped_there : (old new : Ticket) (w : Watching) (most n : ℕ) (out : List Event) → Reads old w → Grows (ticket_sight old) (ticket_sight new) → ticket_mark new ≡ ticket_mark old
    → ticket_rules new ≡ ticket_rules old → HasTaken old most (Got n) new → Reads new (watching_after_step w (ticket_next old) (letters (take n (slice_after_take old (Got n) new out))))
Reads-stepped_there old new w most n out r grows mark rules took =
    let within : ticket_next old + n ≤ length (ticket_seen new) = omega (arith, took.0.0, took.0.1) in
    let news = letters (take n (slice_after_take old (Got n) new out)) in
    let are : news ≡ letters (take n (drop (ticket_next old) (ticket_seen new))) = ap letters (front_of_filled (ticket_seen new) out (ticket_next old) n within) in
    let part : IsSlice (letters (ticket_seen new)) (ticket_next old) news = subst (IsSlice (letters (ticket_seen new)) (ticket_next old)) (sym are) (IsSlice-slice (ticket_seen new) (ticket_next old) n within) in
    let follows = Follows-append w (ticket_seen old) (ticket_seen new) grows.0 r.follows in
    let falls = Falls-append w (ticket_seen old) (ticket_seen new) grows.0 r.follows.within r.falls in
    let none = MissesNoFall-append w (ticket_seen old) (ticket_seen new) grows.0 r.follows.within
    (r.misses_no_fall (never_evicted old new grows rules (ticket_next old) took.0.2)) in
    let many : length news ≡ n = ap length are ∙ length-slice (ticket_seen new) (ticket_next old) n within in
    let moved : ticket_next new ≡ ticket_next old + n = took.1.0 in
    let marked = r.marked in
    let inside : w.at ≤ length (ticket_seen old) = subst (λ k. w.at ≤ k) (length-map (ticket_seen old) _) r.follows.within in
    record {
      follows = ShowsFlagsOf-stepped w (letters (ticket_seen new)) news (ticket_next old) r.reached follows part;
      falls = ShowsFallsOf-stepped w (letters (ticket_seen new)) news (ticket_next old) r.reached follows.within falls part;
      misses_no_fall = λ no. MissesNoFall-stepped w (letters (ticket_seen new)) news (ticket_next old) r.reached follows.within falls.begun part none;
      marked = omega (arith, mark, marked);
      reached = omega (arith, many, moved);
      ended = λ is.
          let was = r.ended is in
          let same = grows.1 was.0 in
          let here : length (ticket_seen new) ≡ length (ticket_seen old) = ap (λ z. length z.seen) same in
          let at : w.at ≡ length (ticket_seen old) = was.1 in
          (subst (λ z. z.closed ≢ 0) (sym same) was.0, omega (arith, here, at, many, within));
    }

-- after a take of some events, along which the watch was stepped
pub Reads-stepped : (old new : Ticket) (w v : Watching) (most n first : ℕ) (out events : List Event) → Reads old w → Grows (ticket_sight old) (ticket_sight new) → ticket_mark new ≡ ticket_mark old
    → ticket_rules new ≡ ticket_rules old → HasTaken old most (Got n) new → events ≡ slice_after_take old (Got n) new out → first ≡ ticket_next old → v ≡ watching_after_step w first (letters (take n events)) → Reads new v
Reads-stepped old new w v most n first out events r grows mark rules took fill begin is =
    subst (Reads new)
    (sym (is ∙ ap (λ k. watching_after_step w k (letters (take n events))) begin ∙ ap (λ z. watching_after_step w (ticket_next old) (letters (take n z))) fill))
    (Reads-stepped_there old new w most n out r grows mark rules took)

-- after a take of none
pub Reads-kept : (old new : Ticket) (w : Watching) → Reads old w → Grows (ticket_sight old) (ticket_sight new) → ticket_mark new ≡ ticket_mark old → ticket_next new ≡ ticket_next old
    → ticket_rules new ≡ ticket_rules old → Reads new w
Reads-kept old new w r grows mark next rules =
    let marked = r.marked in let reached = r.reached in
    record {
      follows = Follows-append w (ticket_seen old) (ticket_seen new) grows.0 r.follows;
      falls = Falls-append w (ticket_seen old) (ticket_seen new) grows.0 r.follows.within r.falls;
      misses_no_fall = λ no. MissesNoFall-append w (ticket_seen old) (ticket_seen new) grows.0 r.follows.within
          (r.misses_no_fall (never_evicted old new grows rules (ticket_next old) (ap (is_evicted_at new) (sym next) ∙ no)));
      marked = omega (arith, mark, marked);
      reached = omega (arith, next, reached);
      ended = λ is.
          let was = r.ended is in
          let same = grows.1 was.0 in
          (subst (λ z. z.closed ≢ 0) (sym same) was.0, was.1 ∙ ap (λ z. length z.seen) (sym same));
    }

-- if a ticket has taken all that it has seen, its watch is at the end
pub at_end : (new : Ticket) (w : Watching) → Reads new w → ticket_next new ≡ length (ticket_seen new) → w.at ≡ length (ticket_seen new)
at_end new w r all =
    let reached = r.reached in
    let inside : w.at ≤ length (ticket_seen new) = subst (λ k. w.at ≤ k) (length-map (ticket_seen new) _) r.follows.within in
    omega (arith, all, reached, inside)

-- after a status of what the ticket has seen, if it is evicted
pub Reads-renewed : (old new : Ticket) (w : Watching) (status : Status) → Reads old w → Grows (ticket_sight old) (ticket_sight new) → ticket_mark new ≡ ticket_mark old → ticket_next new ≡ ticket_next old
    → ticket_rules new ≡ ticket_rules old → is_evicted_at old (ticket_next old) ≡ true → IsStatusOf status (ticket_sight new) → Reads new (renewed_by w status)
Reads-renewed old new w status r grows mark next rules out is =
    let kept = Reads-kept old new w r grows mark next rules in
    let all : length (letters (ticket_seen new)) ≡ length (ticket_seen new) = length-map (ticket_seen new) _ in
    let number = is.0 in
    let inside = kept.follows.within in
    let marked = kept.marked in
    let reached = kept.reached in
    record {
      follows = record {
        within = omega (arith, all, number);
        flags = is.1 ∙ ap flags_of (sym (take_all status.number (letters (ticket_seen new)) (omega (arith, all, number))));
      };
      falls = ShowsFallsOf-renewed w (letters (ticket_seen new)) status inside (omega (arith, inside, all, number)) kept.falls;
      misses_no_fall = λ no.
          absurd (let z : true ≡ false = sym (stays_evicted old new grows rules (ticket_next old) out) ∙ ap (is_evicted_at new) (sym next) ∙ no in cc);
      marked = marked;
      reached = omega (arith, reached, inside, all, number);
      ended = by w.ended refl;
    }
  where
    by : (e : Bool) → w.ended ≡ e → (e || status.closed) ≡ true → (ticket_closed new ≢ 0) × (status.number ≡ length (ticket_seen new))
    by true was so = (((Reads-kept old new w r grows mark next rules).ended was).0, is.0)
    by false was so = (closed_when (ticket_closed new) status.closed is.2 so, is.0)

-- after a take that reported that the ticket is evicted, and then a status
pub Reads-evicted : (old evicted new : Ticket) (w : Watching) (status : Status) → Reads old w → Grows (ticket_sight old) (ticket_sight evicted) → ticket_mark evicted ≡ ticket_mark old
    → ticket_rules evicted ≡ ticket_rules old → HasTaken old 0 Evicted evicted → Grows (ticket_sight evicted) (ticket_sight new) → OnlyLooks (ticket_view evicted) (ticket_view new)
    → IsStatusOf status (ticket_sight new) → Reads new (renewed_by w status)
Reads-evicted old evicted new w status r grows mark rules took further looks is =
    let place = ap (λ (p : Option (ℕ × ℕ)). unwrap_or p (0, 0)) looks.place in
    let kept = Reads-kept old evicted w r grows mark took.1.0 rules in
    Reads-renewed evicted new w status kept further (ap (λ p. p.0) place) (ap (λ p. p.1) place) looks.rules (ap (is_evicted_at evicted) took.1.0 ∙ took.0) is

-- After a take or a cancel a record represents the world after it.
use Rattle.std.proofs.Common.{ℕ, ◌≡◌, ◌+◌, ◌-◌, ◌<◌, ◌≤◌, min, Bool, true, false, if◌then◌else◌, inl, inr, List, [], ◌++◌, length, take, drop, Option, Some, None, Result, Ok, Err, IsOk, IsSome, nat_eq, nat_lt, refl, sym, ap, subst, ◌∙◌, append-nil, arith}
use Rattle.std.proofs.lemmas.Bool.{cases_Bool, lt-ltb, le-ltb, ltb-true, ltb-false}
use Rattle.std.proofs.lemmas.List.{length-drop, length-take-le}
use Rattle.std.specs.Option.{option_map, IfSome}
use Rattle.std.specs.Map.{lookup, set_value, remove_entry}
use Rattle.hub_record.specs.declared.Event.{Event}
use Rattle.hub_record.specs.declared.limits.Limits.{Limits}
use Rattle.hub_record.specs.declared.Taken.{Taken}
use Rattle.hub_record.specs.declared.Taken.TheVariants.{Got, Nothing, End, Evicted}
use Rattle.hub_record.specs.declared.NoId.{NoId}
use Rattle.hub_record.specs.World.{World, Subscription, IsWorld, current, is_slow, is_evicted, subscription_in, changed_from, with_changed, least, base, as_cancelled, events_to_take, moved_on, moved_for, count_to_take, take_events, reply_for, take_reply, after_take, after_take_for, cancel_for, cancel_reply, after_cancel, after_cancel_for}
use Rattle.hub_record.specs.Backlog.{Held, IsSlow, Copies, RemovesBy, next_of, lowest, lowest_in, with_cursors}
use Rattle.hub_record.specs.Kept.{Kept, Represents, SaysPending}
use Rattle.hub_record.proofs.Cursors.{lookup_current, set_current, removed_current, unchanged, within-changed, length-changed}
use Rattle.hub_record.proofs.Active.{least-set_value, least-remove_entry}
use Rattle.hub_record.proofs.Slow.{lowest_bound_at, lowest-set_value, lowest-remove_entry}
use Rattle.hub_record.proofs.Policies.{base_is_lowest, loaded_by, holds, evicted_is_slow, count_within, count_evicted, count_active}
use Rattle.hub_record.proofs.RepresentsWorlds.{held_of, with_held, found_some, found_none, lowest_is, later, recut_represents, still}

-- ---- cancel

pub cancelled : (w : World) (id : ℕ) (s : Subscription) → IsWorld w → subscription_in w id ≡ Some s → (base w ≤ base (with_changed w id as_cancelled)) × IsWorld (with_changed w id as_cancelled)
cancelled w id s i f =
    let e = removed_current 1 w.subscriptions id s f in
    let after = with_changed w id as_cancelled in
    let world : IsWorld after = record {
      within = i.within;
      loaded = loaded_by after (λ hold.
          let k = holds w i hold in
          let l = least-remove_entry (length w.events) (nat_eq id) (current w) in
          let b = ap (least (length w.events)) e in
          omega arith);
      given = (let n = length-changed as_cancelled 1 w.subscriptions id in let g = i.given in omega arith);
      lawful = i.lawful;
      each = within-changed (length w.events) as_cancelled (λ s h. record { began = h.began; ended = h.ended }) 1 w.subscriptions id i.each;
    } in
    let before = base_is_lowest w i in
    let now = base_is_lowest after world ∙ ap (lowest_in w.limits.waiting (length w.events)) e in
    let on = lowest-remove_entry w.limits.waiting (length w.events) (nat_eq id) (current w) in
    (omega arith, world)

some_of : (o : Option ℕ) → IsSome o → (v : ℕ) × (o ≡ Some v)
some_of None h = cc
some_of (Some v) h = (v, refl)

pub cancel_by : (r : Kept) (h : Held) (w : World) (id room : ℕ) (result : Result (Unit {0}) NoId) → Represents r w → room ≡ r.limits.waiting → RemovesBy (held_of r room) h id result → (result ≡ cancel_reply w id) × Represents (with_held r h) (after_cancel w id)
cancel_by r h w id room (Ok done) s at b =
    let v = some_of (lookup (nat_eq id) r.cursors) b.0 in
    let f = found_some r w id v.0 s v.1 in
    let c = cancelled w id f.0 s.world f.1 in
    let represents : Represents (with_held r h) (with_changed w id as_cancelled) =
    recut_represents r h w (changed_from as_cancelled 1 w.subscriptions id) _ room s at c.1 (length-changed as_cancelled 1 w.subscriptions id)
    (ap (remove_entry (nat_eq id)) s.cursors ∙ sym (removed_current 1 w.subscriptions id f.0 f.1)) c.0 b.1 in
    (ap cancel_for (sym f.1), subst (λ o. Represents (with_held r h) (after_cancel_for w id o)) (sym f.1) represents)
cancel_by r h w id room (Err no_id) s at b =
    let f = found_none r w id s b.0 in
    (ap cancel_for (sym f), subst (λ o. Represents (with_held r h) (after_cancel_for w id o)) (sym f) (still r h w room b.1 s))

-- ---- take

-- the cursor of a subscription that isn't cancelled
pub cursor_is : (w : World) (id : ℕ) (s : Subscription) → subscription_in w id ≡ Some s → lookup (nat_eq id) (current w) ≡ Some s.next
cursor_is w id s f = lookup_current 1 w.subscriptions id ∙ ap (option_map (λ (s : Subscription). s.next)) f

-- a take of nothing changes nothing
pub take_still : (w : World) (id most : ℕ) (s : Subscription) → subscription_in w id ≡ Some s → count_to_take w s most ≡ 0 → after_take w id most ≡ w
take_still w id most s f none =
    let next : s.next + count_to_take w s most ≡ s.next = omega arith in
    let got : s.gathered ++ events_to_take w s most ≡ s.gathered = ap (λ n. s.gathered ++ take n (drop s.next w.events)) none ∙ append-nil s.gathered in
    ap (after_take_for w id most) f
    ∙ ap (λ z. record w { subscriptions = z }) (unchanged (moved_on w most) 1 w.subscriptions id s f (λ i. record s { next = next i; gathered = got i }))

nothing_taken : (w : World) (id most : ℕ) (s : Subscription) → subscription_in w id ≡ Some s → count_to_take w s most ≡ 0 → take_events w id most ≡ []
nothing_taken w id most s f none = ap (moved_for w most) f ∙ ap (λ n. take n (drop s.next w.events)) none

moved_base : (w : World) (id most : ℕ) (s : Subscription) → IsWorld w → IsWorld (with_changed w id (moved_on w most)) → subscription_in w id ≡ Some s → is_slow w.limits.waiting (length w.events) s.next ≡ false → base w ≤ base (with_changed w id (moved_on w most))
moved_base w id most s i world f near =
    let e = set_current (moved_on w most) (λ s. refl) 1 w.subscriptions id s f in
    let before = base_is_lowest w i in
    let now = base_is_lowest (with_changed w id (moved_on w most)) world ∙ ap (lowest_in w.limits.waiting (length w.events)) e in
    let on = lowest-set_value w.limits.waiting (length w.events) (nat_eq id) (current w) s.next (s.next + count_to_take w s most) (cursor_is w id s f) near (omega arith) in
    omega arith

pub moved_world : (w : World) (id most : ℕ) (s : Subscription) → IsWorld w → subscription_in w id ≡ Some s → IsWorld (with_changed w id (moved_on w most))
moved_world w id most s i f =
    let e = set_current (moved_on w most) (λ s. refl) 1 w.subscriptions id s f in
    let l = least-set_value (length w.events) (nat_eq id) (current w) s.next (s.next + count_to_take w s most) (cursor_is w id s f) (omega arith) in
    record {
      within = i.within;
      loaded = loaded_by (with_changed w id (moved_on w most)) (λ hold.
          let k = holds w i hold in
          let b = ap (least (length w.events)) e in
          omega arith);
      given = (let n = length-changed (moved_on w most) 1 w.subscriptions id in let g = i.given in omega arith);
      lawful = i.lawful;
      each = within-changed (length w.events) (moved_on w most) (λ s h. let a = h.began in let b = h.ended in let c = count_within w s most in record { began = omega arith; ended = omega arith }) 1 w.subscriptions id i.each;
    }

-- a cursor of the record that isn't slow, and its subscription
near_active : (r : Kept) (w : World) (id v room : ℕ) (s : Subscription) → Represents r w → room ≡ r.limits.waiting → subscription_in w id ≡ Some s → s.next ≡ v → is_slow room r.end v ≡ is_evicted w s.next
near_active r w id v room s st at f is =
    (λ i. is_slow ((at ∙ ap (λ (l : Limits). l.waiting) st.limits) i) (st.end i) (sym is i)) ∙ sym (evicted_is_slow w id s.next st.world (cursor_is w id s f))

-- ---- the replies to a take

pub reply_evicted : (w : World) (most : ℕ) (s : Subscription) → is_evicted w s.next ≡ true → reply_for w most (Some s) ≡ Ok Evicted
reply_evicted w most s out = simp out

pub reply_got : (w : World) (most : ℕ) (s : Subscription) → is_evicted w s.next ≡ false → nat_lt s.next (length w.events) ≡ true → reply_for w most (Some s) ≡ Ok (Got (count_to_take w s most))
reply_got w most s up more = simp (up, more)

pub reply_none : (w : World) (most : ℕ) (s : Subscription) → is_evicted w s.next ≡ false → nat_lt s.next (length w.events) ≡ false → reply_for w most (Some s) ≡ (if w.closed then Ok End else Ok Nothing)
reply_none w most s up more = simp (up, more)

-- what a take says, and how it fills the slice
abbrev pub TellsTake : World → ℕ → List Event → List Event → Result Taken NoId → Type 0
TellsTake w id slice filled reply = (reply ≡ take_reply w id (length slice)) × (filled ≡ take_events w id (length slice) ++ drop (length (take_events w id (length slice))) slice)

-- of a take that moves nothing
nothing_told : (w : World) (id : ℕ) (s : Subscription) (slice filled : List Event) (reply : Result Taken NoId) → subscription_in w id ≡ Some s → count_to_take w s (length slice) ≡ 0 → filled ≡ slice
    → reply ≡ reply_for w (length slice) (Some s) → TellsTake w id slice filled reply
nothing_told w id s slice filled reply f none written is = (
  is ∙ ap (reply_for w (length slice)) (sym f),
  written ∙ sym (ap (λ z. z ++ drop (length z) slice) (nothing_taken w id (length slice) s f none)),
)

-- n events are taken from what is kept
events_taken : (r : Kept) (w : World) (id v most count room : ℕ) → Represents r w → room ≡ r.limits.waiting → lookup (nat_eq id) r.cursors ≡ Some v → is_slow room r.end v ≡ false → count ≡ min most (r.end - v) → take_events w id most ≡ take count (drop (v - lowest (held_of r room)) r.events)
events_taken r w id v most count room s at e near c =
    let f = found_some r w id v s e in
    let n = s.end in
    let is = f.2 in
    let counted = count_active w f.0 most (sym (near_active r w id v room f.0 s at f.1 is) ∙ near) in
    let same : count_to_take w f.0 most ≡ count = omega arith in
    let b : lowest (held_of r room) ≡ base w = lowest_is r w room s at in
    let l = lowest_bound_at room r.end (nat_eq id) r.cursors v e near in
    ap (moved_for w most) f.1 ∙ (λ i. take (same i) (drop (is i) w.events)) ∙ ap (take count) (sym (later w v (omega arith))) ∙ sym (λ i. take count (drop (v - b i) (s.events i)))

pub tells_some : (r : Kept) (w : World) (id n room : ℕ) (slice filled : List Event) → Represents r w → room ≡ r.limits.waiting → Copies (held_of r room) id n slice filled → TellsTake w id slice filled (Ok (Got n))
tells_some r w id n room slice filled s at t =
    let p = t.pending in
    let f = found_some r w id p.next s p.was_at in
    let m = s.end in
    let is = f.2 in
    let waited = p.waited in
    let count = t.count in
    let near : is_slow room r.end p.next ≡ false = le-ltb room (r.end - p.next) p.fits in
    let up : is_evicted w f.0.next ≡ false = sym (near_active r w id p.next room f.0 s at f.1 is) ∙ near in
    let yes : nat_lt f.0.next (length w.events) ≡ true = lt-ltb f.0.next (length w.events) (omega arith) in
    let counted = count_active w f.0 (length slice) up in
    let same : n ≡ count_to_take w f.0 (length slice) = omega arith in
    let reply : Ok (Got n) ≡ reply_for w (length slice) (Some f.0) = ap (λ z. Ok (Got z)) same ∙ sym (reply_got w (length slice) f.0 up yes) in
    let b : lowest (held_of r room) ≡ base w = lowest_is r w room s at in
    let low = lowest_bound_at room r.end (nat_eq id) r.cursors p.next p.was_at near in
    let kept = ap length s.events in
    let dropped = length-drop (base w) w.events in
    let events = events_taken r w id p.next (length slice) n room s at p.was_at near count in
    let d = length-drop (p.next - lowest (held_of r room)) r.events in
    let long : length (take n (drop (p.next - lowest (held_of r room)) r.events)) ≡ n = length-take-le n (drop (p.next - lowest (held_of r room)) r.events) (omega arith) in
    let size : n ≡ length (take_events w id (length slice)) = sym long ∙ ap length (sym events) in (
      reply ∙ ap (reply_for w (length slice)) (sym f.1),
      t.copied ∙ (λ i. sym events i ++ drop (size i) slice),
    )

pub tells_nothing : (r : Kept) (w : World) (id room : ℕ) (slice filled : List Event) → Represents r w → room ≡ r.limits.waiting → lookup (nat_eq id) r.cursors ≡ Some r.end → filled ≡ slice → TellsTake w id slice filled (if r.closed then Ok End else Ok Nothing)
tells_nothing r w id room slice filled s at e written =
    let f = found_some r w id r.end s e in
    let m = s.end in
    let is = f.2 in
    let near : is_slow room r.end r.end ≡ false = le-ltb room (r.end - r.end) (omega arith) in
    let up : is_evicted w f.0.next ≡ false = sym (near_active r w id r.end room f.0 s at f.1 is) ∙ near in
    let no : nat_lt f.0.next (length w.events) ≡ false = le-ltb f.0.next (length w.events) (omega arith) in
    let counted = count_active w f.0 (length slice) up in
    nothing_told w id f.0 slice filled (if r.closed then Ok End else Ok Nothing) f.1 (omega arith) written
    (ap (λ (b : Bool). if b then Ok End else Ok Nothing) s.closed ∙ sym (reply_none w (length slice) f.0 up no))

pub tells_lost : (r : Kept) (w : World) (id room : ℕ) (slice filled : List Event) → Represents r w → room ≡ r.limits.waiting → IsSlow (held_of r room) id → filled ≡ slice → TellsTake w id slice filled (Ok Evicted)
tells_lost r w id room slice filled s at (next, was_at, slow) written =
    let f = found_some r w id next s was_at in
    let out : is_evicted w f.0.next ≡ true = sym (near_active r w id next room f.0 s at f.1 f.2) ∙ lt-ltb room (r.end - next) slow in
    nothing_told w id f.0 slice filled (Ok Evicted) f.1 (count_evicted w f.0 (length slice) out) written (sym (reply_evicted w (length slice) f.0 out))

pub tells_none : (r : Kept) (w : World) (id : ℕ) (slice filled : List Event) → Represents r w → lookup (nat_eq id) r.cursors ≡ None → filled ≡ slice → TellsTake w id slice filled (Err (record {}))
tells_none r w id slice filled s e written =
    let f = found_none r w id s e in
    (ap (reply_for w (length slice)) (sym f), written ∙ sym (ap (λ z. z ++ drop (length z) slice) (ap (moved_for w (length slice)) f)))

-- ---- what the answer to a take shows of a current subscription

abbrev pub AnswerShows : World → ℕ → Subscription → Result Taken NoId → Type 0
AnswerShows w most s (Ok (Got n)) = (s.next < length w.events) × (n ≡ count_to_take w s most) × (is_evicted w s.next ≡ false)
AnswerShows w most s (Ok Nothing) = (length w.events ≤ s.next) × (w.closed ≡ false)
AnswerShows w most s (Ok End) = (length w.events ≤ s.next) × (w.closed ≡ true)
AnswerShows w most s (Ok Evicted) = is_evicted w s.next ≡ true
AnswerShows w most s (Err e) = ⊥

none_shown : (w : World) (most : ℕ) (s : Subscription) → length w.events ≤ s.next → AnswerShows w most s (if w.closed then Ok End else Ok Nothing)
none_shown w most s le = by w.closed refl
  where
    by : (closed : Bool) → w.closed ≡ closed → AnswerShows w most s (if closed then Ok End else Ok Nothing)
    by true is = (le, is)
    by false is = (le, is)

shown : (w : World) (most : ℕ) (s : Subscription) → AnswerShows w most s (reply_for w most (Some s))
shown w most s = elim (cases_Bool (is_evicted w s.next)) [
  | inl o ↦ subst (AnswerShows w most s) (sym (reply_evicted w most s o)) o
  | inr u ↦ elim (cases_Bool (nat_lt s.next (length w.events))) [
    | inl t ↦ subst (AnswerShows w most s) (sym (reply_got w most s u t)) (ltb-true s.next (length w.events) t, refl, u)
    | inr f ↦ subst (AnswerShows w most s) (sym (reply_none w most s u f)) (none_shown w most s (ltb-false s.next (length w.events) f))
  ]
]

pub shows_by : (w : World) (most : ℕ) (s : Subscription) (answer : Result Taken NoId) → answer ≡ reply_for w most (Some s) → AnswerShows w most s answer
shows_by w most s answer e = subst (AnswerShows w most s) (sym e) (shown w most s)

-- a current subscription has an answer
pub answered : (w : World) (most : ℕ) (s : Subscription) (answer : Result Taken NoId) → AnswerShows w most s answer → IsOk answer
answered w most s (Ok x) h = refl
answered w most s (Err e) h = absurd h

-- ---- what represents after a take

-- events were taken, and the cursor is behind them
pub take_represents : (r : Kept) (h : Held) (w : World) (id most n room : ℕ) → Represents r w → room ≡ r.limits.waiting → SaysPending r id (Got n) → Ok (Got n) ≡ take_reply w id most
    → IfSome (next_of (held_of r room) id) (λ next. h ≡ with_cursors (held_of r room) (set_value (nat_eq id) r.cursors (next + n))) → Represents (with_held r h) (after_take w id most)
take_represents r h w id most n room s at pending told moved =
    let f = found_some r w id pending.next s pending.was_at in
    let is = f.2 in
    let got = shows_by w most f.0 (Ok (Got n)) (told ∙ ap (reply_for w most) f.1) in
    let counted = got.1 in
    let same : pending.next + n ≡ f.0.next + count_to_take w f.0 most = omega arith in
    let on = subst (λ o. IfSome o (λ next. h ≡ with_cursors (held_of r room) (set_value (nat_eq id) r.cursors (next + n)))) pending.was_at moved in
    let world = moved_world w id most f.0 s.world f.1 in
    let fast : is_slow w.limits.waiting (length w.events) f.0.next ≡ false = sym (evicted_is_slow w id f.0.next s.world (cursor_is w id f.0 f.1)) ∙ got.2 in
    let represents : Represents (with_held r h) (with_changed w id (moved_on w most)) =
    recut_represents r h w (changed_from (moved_on w most) 1 w.subscriptions id) _ room s at world (length-changed (moved_on w most) 1 w.subscriptions id)
    ((λ i. set_value (nat_eq id) (s.cursors i) (same i)) ∙ sym (set_current (moved_on w most) (λ s. refl) 1 w.subscriptions id f.0 f.1)) (moved_base w id most f.0 s.world world f.1 fast) on in
    subst (λ o. Represents (with_held r h) (after_take_for w id most o)) (sym f.1) represents

-- an answer without events moves nothing
nothing_counted : (w : World) (most : ℕ) (s : Subscription) (taken : Taken) → AnswerShows w most s (Ok taken) → ((n : ℕ) → taken ≡ Got n → ⊥) → count_to_take w s most ≡ 0
nothing_counted w most s (Got n) shows not = absurd (not n refl)
nothing_counted w most s Nothing shows not = let least = shows.0 in let c = count_within w s most in omega arith
nothing_counted w most s End shows not = let least = shows.0 in let c = count_within w s most in omega arith
nothing_counted w most s Evicted shows not = count_evicted w s most shows

pub take_rests : (w : World) (id most : ℕ) (taken : Taken) → Ok taken ≡ take_reply w id most → ((n : ℕ) → taken ≡ Got n → ⊥) → after_take w id most ≡ w
take_rests w id most taken told not = by (subscription_in w id) refl
  where
    by : (o : Option Subscription) → subscription_in w id ≡ o → after_take w id most ≡ w
    by None f = ap (after_take_for w id most) f
    by (Some s) f = take_still w id most s f (nothing_counted w most s taken (shows_by w most s (Ok taken) (told ∙ ap (reply_for w most) f)) not)

-- Takes of the letters behind a cursor, one at a time.
use Rattle.std.proofs.Common.{◌≡◌, if◌then◌else◌, ℕ, zero, suc, ◌+◌, ◌-◌, ◌<◌, ◌≤◌, Bool, true, false, List, [], ◌∷◌, ◌++◌, length, take, drop, get_or, min, nat_eq, Option, Some, is_some, Ok, refl, sym, ap, subst, ◌∙◌, inl, inr, true≢false, append_assoc, append-nil, ⊎_elim, arith, nat_lt, None}
use Rattle.std.proofs.lemmas.Bool.{cases_Bool, cases_lt}
use Rattle.std.proofs.lemmas.List.{length-drop, length-map, drop-drop, drop-map, nil_from_length}
use Rattle.hub_record.specs.Kept.{Kept, Represents}
use Rattle.hub_record.specs.World.{World, Subscription, letters, is_evicted, subscription_in, found_from, changed_from, with_changed, count_to_take, events_to_take, moved_on, reply_for, take_reply, take_events, moved_for, after_take, after_take_for, pending_for}
use Rattle.hub_record.specs.declared.Event.{Event}
use Rattle.hub_record.specs.declared.Taken.{Taken}
use Rattle.hub_record.specs.declared.Taken.TheVariants as taken
use Rattle.hub_record.proofs.Policies.{count_active, count_evicted, count_within, goes_on_up, end_up}
use Rattle.hub_record.proofs.Taking.{AnswerShows, shows_by, reply_evicted, reply_got, reply_none}
use Rattle.hub_local.specs.Polls.{waiting_for, is_out, is_out_for}
use Rattle.hub_local.specs.Hearings.{behind}
use Rattle.std.specs.Option.{unwrap_or}
use Rattle.hub_record.specs.declared.Taken.TheVariants.{Got}
use Rattle.hub_record.proofs.Gathered.{asks, take_alike}

-- ---- lists

drop-none : {X : Type 0} (xs : List X) → drop (length xs) xs ≡ []
drop-none [] = refl
drop-none (x ∷ xs) = drop-none xs

pub drop-all : {X : Type 0} (xs : List X) (n : ℕ) → length xs ≤ n → drop n xs ≡ []
drop-all [] zero le = refl
drop-all [] (suc n) le = refl
drop-all (x ∷ xs) zero le = absurd (let no : ⊥ = omega arith in no)
drop-all (x ∷ xs) (suc n) le = drop-all xs n (omega arith)

drop-min : {X : Type 0} (xs : List X) (m : ℕ) → drop (min m (length xs)) xs ≡ drop m xs
drop-min xs m =
    ⊎_elim (λ (l : m < length xs). let e : min m (length xs) ≡ m = omega arith in ap (λ (n : ℕ). drop n xs) e)
    (λ (le : length xs ≤ m). let e : min m (length xs) ≡ length xs = omega arith in ap (λ (n : ℕ). drop n xs) e ∙ drop-none xs ∙ sym (drop-all xs m le))
    (cases_lt m (length xs))

drop-one : {X : Type 0} (xs : List X) (n : ℕ) → n < length xs → (x : X) × (drop n xs ≡ x ∷ drop (suc n) xs)
drop-one [] zero l = absurd (let no : ⊥ = omega arith in no)
drop-one [] (suc n) l = absurd (let no : ⊥ = omega arith in no)
drop-one (x ∷ xs) zero l = (x, refl)
drop-one (x ∷ xs) (suc n) l = drop-one xs n (omega arith)

take-then : {X : Type 0} (xs : List X) (m n : ℕ) → take m xs ++ take n (drop m xs) ≡ take (m + n) xs
take-then [] zero n = let e : n ≡ 0 + n = omega arith in ap (λ (k : ℕ). take k []) e
take-then {X = X} [] (suc m) n = by n (suc m + n)
  where
    by : (k j : ℕ) → take {A = X} k [] ≡ take j []
    by zero zero = refl
    by zero (suc j) = refl
    by (suc k) zero = refl
    by (suc k) (suc j) = refl
take-then (x ∷ xs) zero n = let e : n ≡ 0 + n = omega arith in ap (λ (k : ℕ). take k (x ∷ xs)) e
take-then (x ∷ xs) (suc m) n = let e : suc m + n ≡ suc (m + n) = omega arith in
    ap (λ (z : List _). x ∷ z) (take-then xs m n) ∙ sym (ap (λ (k : ℕ). take k (x ∷ xs)) e)

-- ---- a subscription that is changed

changed_same : (f : Subscription → Subscription) (from : ℕ) (subs : List Subscription) (id : ℕ) → ((s : Subscription) → found_from from subs id ≡ Some s → f s ≡ s)
    → is_some (found_from from subs id) ≡ true → changed_from f from subs id ≡ subs
changed_same f from [] id same there = refl
changed_same f from (x ∷ rest) id same there =
    elim (cases_Bool (nat_eq id from)) [
      | inl e ↦ elim (cases_Bool x.current) [
        | inl st ↦ simp e (ap (λ (z : Subscription). z ∷ rest) (same x (simp (e, st))))
        | inr st ↦ (let k = simp (e, st) at there in absurd (true≢false (sym k)))
      ]
      | inr e ↦ simp e (ap (λ (z : List Subscription). x ∷ z) (changed_same f (from + 1) rest id (λ s is. same s (simp e is)) (simp e at there)))
    ]

changed_twice : (f g h : Subscription → Subscription) (from : ℕ) (subs : List Subscription) (id : ℕ) → ((s : Subscription) → found_from from subs id ≡ Some s → g (f s) ≡ h s)
    → is_some (found_from from subs id) ≡ true → changed_from g from (changed_from f from subs id) id ≡ changed_from h from subs id
changed_twice f g h from [] id same there = refl
changed_twice f g h from (x ∷ rest) id same there =
    elim (cases_Bool (nat_eq id from)) [
      | inl e ↦ elim (cases_Bool x.current) [
        | inl st ↦ simp e (ap (λ (z : Subscription). z ∷ rest) (same x (simp (e, st))))
        | inr st ↦ (let k = simp (e, st) at there in absurd (true≢false (sym k)))
      ]
      | inr e ↦ simp e (ap (λ (z : List Subscription). x ∷ z) (changed_twice f g h (from + 1) rest id (λ s is. same s (simp e is)) (simp e at there)))
    ]

found_at : (f : Subscription → Subscription) → ((s : Subscription) → (f s).current ≡ s.current) → (from : ℕ) (subs : List Subscription) (id : ℕ) (s : Subscription)
    → found_from from subs id ≡ Some s → found_from from (changed_from f from subs id) id ≡ Some (f s)
found_at f keep from [] id s is = absurd (let no : ⊥ = cc in no)
found_at f keep from (x ∷ rest) id s is =
    elim (cases_Bool (nat_eq id from)) [
      | inl e ↦ elim (cases_Bool x.current) [
        | inl st ↦ (let k = simp (e, st) at is in
            let same : x ≡ s = cc in
            let also : (f x).current ≡ true = keep x ∙ st in simp (e, also) (ap (λ (z : Subscription). Some (f z)) same))
        | inr st ↦ (let k = simp (e, st) at is in absurd (let no : ⊥ = cc in no))
      ]
      | inr e ↦ simp e (found_at f keep (from + 1) rest id s (simp e at is))
    ]

-- ---- takes

module _ (w : World) (id : ℕ) (s : Subscription) (is : subscription_in w id ≡ Some s) where
  after_take_is : (m : ℕ) → after_take w id m ≡ with_changed w id (moved_on w m)
  after_take_is m = ap (after_take_for w id m) is

  there : is_some (subscription_in w id) ≡ true
  there = ap is_some is

  only : (x : Subscription) → subscription_in w id ≡ Some x → x ≡ s
  only x e = let k : Some x ≡ Some s = sym e ∙ is in cc

  -- the subscription afterwards
  pub found_then : (m : ℕ) → subscription_in (after_take w id m) id ≡ Some (moved_on w m s)
  found_then m = ap (λ (v : World). subscription_in v id) (after_take_is m) ∙ found_at (moved_on w m) (λ y. refl) 1 w.subscriptions id s is

  moved_on_none : (m : ℕ) (x : Subscription) → x ≡ s → count_to_take w s m ≡ 0 → moved_on w m x ≡ x
  moved_on_none m x e none =
      let t : count_to_take w x m ≡ 0 = ap (λ (y : Subscription). count_to_take w y m) e ∙ none in
      let next : x.next + count_to_take w x m ≡ x.next = omega arith in
      let more : x.gathered ++ events_to_take w x m ≡ x.gathered = ap (λ (n : ℕ). x.gathered ++ take n (drop x.next w.events)) t ∙ append-nil x.gathered in
      λ i. record x { next = next i; gathered = more i }

  pub take_none : (m : ℕ) → count_to_take w s m ≡ 0 → after_take w id m ≡ w
  take_none m none = after_take_is m
      ∙ ap (λ (subs : List Subscription). record w { subscriptions = subs }) (changed_same (moved_on w m) 1 w.subscriptions id (λ x e. moved_on_none m x (only x e) none) there)

  moved_on_more : (m : ℕ) (x : Subscription) → x ≡ s → is_evicted w s.next ≡ false → s.next + m < length w.events → moved_on w 1 (moved_on w m x) ≡ moved_on w (m + 1) x
  moved_on_more m x e up below =
      let at : x.next ≡ s.next = ap (λ (y : Subscription). y.next) e in
      let up_here : is_evicted w x.next ≡ false = ap (λ (y : Subscription). is_evicted w y.next) e ∙ up in
      let all = count_active w x m up_here in
      let one : count_to_take w x m ≡ m = omega arith in
      let later = count_active w (moved_on w m x) 1 (goes_on_up w x.next (count_to_take w x m) up_here) in
      let two : count_to_take w (moved_on w m x) 1 ≡ 1 = omega arith in
      let sum = count_active w x (m + 1) up_here in
      let both : count_to_take w x (m + 1) ≡ m + 1 = omega arith in
      let next : x.next + count_to_take w x m + count_to_take w (moved_on w m x) 1 ≡ x.next + count_to_take w x (m + 1) = omega arith in
      let gathered : (x.gathered ++ take (count_to_take w x m) (drop x.next w.events)) ++ take (count_to_take w (moved_on w m x) 1) (drop (x.next + count_to_take w x m) w.events)
      ≡ x.gathered ++ take (count_to_take w x (m + 1)) (drop x.next w.events) =
      (λ i. (x.gathered ++ take (one i) (drop x.next w.events)) ++ take (two i) (drop (x.next + one i) w.events))
      ∙ append_assoc x.gathered _ _
      ∙ ap (λ (t : List Event). x.gathered ++ (take m (drop x.next w.events) ++ take 1 t)) (sym (drop-drop m x.next w.events))
      ∙ ap (λ (t : List Event). x.gathered ++ t) (take-then (drop x.next w.events) m 1)
      ∙ sym (ap (λ (n : ℕ). x.gathered ++ take n (drop x.next w.events)) both) in
      λ i. record x { next = next i; gathered = gathered i }

-- one more is taken
pub take_more_then : (w : World) (id : ℕ) (s : Subscription) → subscription_in w id ≡ Some s → (m : ℕ) → is_evicted w s.next ≡ false → s.next + m < length w.events → after_take (after_take w id m) id 1 ≡ after_take w id (m + 1)
take_more_then w id s is m up below =
    let v = with_changed w id (moved_on w m) in
    let first : after_take w id m ≡ v = after_take_is w id s is m in
    let later : subscription_in v id ≡ Some (moved_on w m s) = sym (ap (λ (u : World). subscription_in u id) first) ∙ found_then w id s is m in
    ap (λ (u : World). after_take u id 1) first ∙ after_take_is v id (moved_on w m s) later 1
    ∙ ap (λ (subs : List Subscription). record w { subscriptions = subs })
    (changed_twice (moved_on w m) (moved_on w 1) (moved_on w (m + 1)) 1 w.subscriptions id (λ x e. moved_on_more w id s is m x (only w id s is x e) up below) (there w id s is))
    ∙ sym (after_take_is w id s is (m + 1))

-- ---- the letters behind the cursor

module _ (w : World) (id : ℕ) (s : Subscription) (is : subscription_in w id ≡ Some s) where
  out_is : is_out w id ≡ is_evicted w s.next
  out_is = ap (is_out_for w) is

  behind_out : is_evicted w s.next ≡ true → behind w id ≡ []
  behind_out out = ap (λ (o : Option Subscription). letters (waiting_for w o)) is ∙ ap (λ (b : Bool). letters (if b then [] else drop s.next w.events)) out

  behind_up : is_evicted w s.next ≡ false → behind w id ≡ letters (drop s.next w.events)
  behind_up up = ap (λ (o : Option Subscription). letters (waiting_for w o)) is ∙ ap (λ (b : Bool). letters (if b then [] else drop s.next w.events)) up

  length-up : is_evicted w s.next ≡ false → length (behind w id) ≡ length w.events - s.next
  length-up up = ap length (behind_up up) ∙ length-map (drop s.next w.events) (λ (e : Event). e.letter) ∙ length-drop s.next w.events

  -- if a letter is pending, it isn't evicted
  pub up_if_behind : 0 < length (behind w id) → (is_evicted w s.next ≡ false) × (length (behind w id) ≡ length w.events - s.next)
  up_if_behind some = elim (cases_Bool (is_evicted w s.next)) [
    | inl out ↦ (let none = ap length (behind_out out) in absurd (omega arith))
    | inr up ↦ (up, length-up up)
  ]

  -- the subscription afterwards is evicted if it was
  pub out_then : (m : ℕ) → is_out (after_take w id m) id ≡ is_out w id
  out_then m = elim (cases_Bool (is_evicted w s.next)) [
    | inl out ↦ ap (λ (u : World). is_out u id) (take_none w id s is m (count_evicted w s m out))
    | inr up ↦ ap (λ (u : World). is_out_for u (subscription_in (after_take w id m) id)) (after_take_is w id s is m) ∙ ap (is_out_for w) (found_then w id s is m)
        ∙ goes_on_up w s.next (count_to_take w s m) up ∙ sym (out_is ∙ up)
  ]

  -- the letters afterwards
  pub behind_then : (m : ℕ) → behind (after_take w id m) id ≡ drop m (behind w id)
  behind_then m = elim (cases_Bool (is_evicted w s.next)) [
    | inl out ↦ ap (λ (u : World). behind u id) (take_none w id s is m (count_evicted w s m out)) ∙ behind_out out ∙ sym (ap (drop m) (behind_out out) ∙ drop-all [] m (omega arith))
    | inr up ↦ (let v = with_changed w id (moved_on w m) in
        let first : after_take w id m ≡ v = after_take_is w id s is m in
        let later : subscription_in v id ≡ Some (moved_on w m s) = sym (ap (λ (u : World). subscription_in u id) first) ∙ found_then w id s is m in
        let all = length-drop s.next w.events in
        ap (λ (u : World). behind u id) first ∙ ap (λ (o : Option Subscription). letters (waiting_for v o)) later
        ∙ ap (λ (b : Bool). letters (if b then [] else drop (s.next + count_to_take w s m) w.events)) (goes_on_up w s.next (count_to_take w s m) up)
        ∙ ap (λ (n : ℕ). letters (drop (s.next + n) w.events)) (count_active w s m up)
        ∙ ap letters (sym (drop-drop (min m (length w.events - s.next)) s.next w.events))
        ∙ ap (λ (n : ℕ). letters (drop (min m n) (drop s.next w.events))) (sym all)
        ∙ ap letters (drop-min (drop s.next w.events) m) ∙ sym (drop-map (λ (e : Event). e.letter) m (drop s.next w.events)) ∙ sym (ap (drop m) (behind_up up)))
  ]

  pub closed_then : (m : ℕ) → (after_take w id m).closed ≡ w.closed
  closed_then m = ap (λ (u : World). u.closed) (after_take_is w id s is m)

  -- ---- one take

  shown_by : (said : Taken) → Ok said ≡ take_reply w id 1 → AnswerShows w 1 s (Ok said)
  shown_by said e = shows_by w 1 s (Ok said) (e ∙ ap (reply_for w 1) is)

  pub got_one : (count : ℕ) → Ok (taken.Got count) ≡ take_reply w id 1 → (s.next < length w.events) × (is_evicted w s.next ≡ false)
  got_one count e = let k = shown_by (taken.Got count) e in (k.0, k.2)

  pub got_none : Ok taken.Nothing ≡ take_reply w id 1 → (length w.events ≤ s.next) × (w.closed ≡ false)
  got_none e = shown_by taken.Nothing e

  pub got_end : Ok taken.End ≡ take_reply w id 1 → (length w.events ≤ s.next) × (w.closed ≡ true)
  got_end e = shown_by taken.End e

  -- it is evicted
  module _ (said : Ok taken.Evicted ≡ take_reply w id 1) (kept : Kept) (represents : Represents kept (after_take w id 1)) where
    out : is_evicted w s.next ≡ true
    out = shown_by taken.Evicted said

    pub evicted_one : (behind w id ≡ []) × (is_out w id ≡ true) × Represents kept w
    evicted_one = (behind_out out, out_is ∙ out, subst (Represents kept) (take_none w id s is 1 (count_evicted w s 1 out)) represents)

  -- none is pending
  module _ (none : length w.events ≤ s.next) (kept : Kept) (represents : Represents kept (after_take w id 1)) where
    pub none_behind : behind w id ≡ []
    none_behind = let l = length-up (end_up w s.next none) in nil_from_length (behind w id) (omega arith)

    pub still_represents : Represents kept w
    still_represents = let c = count_within w s 1 in let t : count_to_take w s 1 ≡ 0 = omega arith in subst (Represents kept) (take_none w id s is 1 t) represents

    pub not_out : is_out w id ≡ false
    not_out = out_is ∙ end_up w s.next none

  -- one is pending
  pub one_behind : s.next < length w.events → is_evicted w s.next ≡ false → (out room : List Event) (d : Event) → out ≡ take_events w id 1 ++ room → (rest : List ℕ) × (behind w id ≡ (get_or out 0 d).letter ∷ rest)
  one_behind some up out room d filled =
      let one = drop-one w.events s.next some in
      let c = count_active w s 1 up in
      let t : count_to_take w s 1 ≡ 1 = omega arith in
      let took : take_events w id 1 ≡ one.0 ∷ [] = ap (moved_for w 1) is ∙ (λ i. take (t i) (one.1 i)) in
      let first : out ≡ one.0 ∷ room = filled ∙ ap (λ (z : List Event). z ++ room) took in
      (letters (drop (suc s.next) w.events), behind_up up ∙ ap letters one.1 ∙ sym (ap (λ (z : List Event). (get_or z 0 d).letter ∷ letters (drop (suc s.next) w.events)) first))

-- ---- if fewer events are pending than are asked for, to take as many as are pending is to take as many as are asked for

pub record IsSameTake (w : World) (id some all : ℕ) : Type 0 where
  pub reply : take_reply w id some ≡ take_reply w id all
  pub events : take_events w id some ≡ take_events w id all
  pub after : after_take w id some ≡ after_take w id all

same_count : (w : World) (id most waiting : ℕ) → waiting ≡ unwrap_or (pending_for w (subscription_in w id)) 0 → (s : Subscription) → subscription_in w id ≡ Some s → count_to_take w s (min most waiting) ≡ count_to_take w s most
same_count w id most waiting e s is = let turned : min most waiting ≡ min waiting most = omega arith in ap (count_to_take w s) turned ∙ asks w id most waiting e s is

same_reply : (w : World) (some all : ℕ) (s : Subscription) → count_to_take w s some ≡ count_to_take w s all → reply_for w some (Some s) ≡ reply_for w all (Some s)
same_reply w some all s same = elim (cases_Bool (is_evicted w s.next)) [
  | inl out ↦ reply_evicted w some s out ∙ sym (reply_evicted w all s out)
  | inr up ↦ elim (cases_Bool (nat_lt s.next (length w.events))) [
    | inl more ↦ reply_got w some s up more ∙ ap (λ n. Ok (Got n)) same ∙ sym (reply_got w all s up more)
    | inr none ↦ reply_none w some s up none ∙ sym (reply_none w all s up none)
  ]
]

pub same_take : (w : World) (id most waiting : ℕ) → waiting ≡ unwrap_or (pending_for w (subscription_in w id)) 0 → IsSameTake w id (min most waiting) most
same_take w id most waiting is = record {
  reply = reply_by (subscription_in w id) refl;
  events = events_by (subscription_in w id) refl;
  after = take_alike w id (min most waiting) most (same_count w id most waiting is);
}
  where
    reply_by : (o : Option Subscription) → subscription_in w id ≡ o → take_reply w id (min most waiting) ≡ take_reply w id most
    reply_by None e = ap (reply_for w (min most waiting)) e ∙ sym (ap (reply_for w most) e)
    reply_by (Some s) e = ap (reply_for w (min most waiting)) e ∙ same_reply w (min most waiting) most s (same_count w id most waiting is s e) ∙ sym (ap (reply_for w most) e)

    events_by : (o : Option Subscription) → subscription_in w id ≡ o → take_events w id (min most waiting) ≡ take_events w id most
    events_by None e = ap (moved_for w (min most waiting)) e ∙ sym (ap (moved_for w most) e)
    events_by (Some s) e = ap (moved_for w (min most waiting)) e ∙ ap (λ n. take n (drop s.next w.events)) (same_count w id most waiting is s e) ∙ sym (ap (moved_for w most) e)

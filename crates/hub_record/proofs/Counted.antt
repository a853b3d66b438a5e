-- The counts from a base on, after each change, and the base that they tell.
use Rattle.std.proofs.Common.{ℕ, zero, suc, ◌≡◌, ◌+◌, ◌-◌, ◌<◌, ◌≤◌, min, Bool, false, List, [], ◌∷◌, ◌++◌, Some, length, drop, get_or, replicate, nat_lt, refl, sym, ap, ◌∙◌, inl, inr, arith}
use Rattle.std.proofs.lemmas.Bool.{cases_eq, cases_lt, ltb-true, ltb-false}
use Rattle.std.proofs.lemmas.List.{length-set, get_or-set_same, get_or-set_other, get_or-drop, get_or_past}
use Rattle.std.proofs.lemmas.List.Sums.{fails_before_first, passes_at_first}
use Rattle.std.specs.Map.{lookup, set_value, remove_entry}
use Rattle.hub_record.specs.World.{least}
use Rattle.hub_record.specs.Backlog.{active_at, active_in, with_one_more, with_one_less, first_place}
use Rattle.hub_record.proofs.Active.{one, none, one_at, active_at-push, active_at-set_value, active_at-remove_entry, active_at-some, active_at-two, least_bound, least_bound_active, least_met}
use Rattle.hub_record.proofs.Slow.{active_at-active_in}

-- place k counts the cursors at base + k
abbrev pub Counts : ℕ → List ℕ → List (ℕ × ℕ) → Type 0
Counts base counts cs = (k : ℕ) → get_or counts k 0 ≡ active_at (base + k) cs

-- ---- one place

one_at-shift : (base k p v : ℕ) → v ≡ base + p → one_at (base + k) v ≡ one_at k p
one_at-shift base k p v at = elim (cases_eq p k) [
  | inl is ↦ one (base + k) v (omega arith) ∙ sym (one k p is)
  | inr not ↦ none (base + k) v (λ e. not (omega arith)) ∙ sym (none k p not)
]

pub get_or-one_more : (counts : List ℕ) (p k : ℕ) → p < length counts → get_or (with_one_more counts p) k 0 ≡ get_or counts k 0 + one_at k p
get_or-one_more counts p k inside = elim (cases_eq p k) [
  | inl is ↦ (let o = one k p is in
      let at = ap (λ j. get_or (with_one_more counts p) j 0) is in
      let was = ap (λ j. get_or counts j 0) is in
      let now = get_or-set_same counts p (get_or counts p 0 + 1) 0 inside in omega arith)
  | inr not ↦ (let z = none k p not in
      let now = get_or-set_other counts p k (get_or counts p 0 + 1) 0 (λ e. not (sym e)) in omega arith)
]

inside_from_some : (counts : List ℕ) (p : ℕ) → 0 < get_or counts p 0 → p < length counts
inside_from_some counts p some = elim (cases_lt p (length counts)) [
  | inl inside ↦ inside
  | inr past ↦ (let z = get_or_past counts p 0 past in absurd (omega arith))
]

pub get_or-one_less : (counts : List ℕ) (p k : ℕ) → 0 < get_or counts p 0 → get_or (with_one_less counts p) k 0 + one_at k p ≡ get_or counts k 0
get_or-one_less counts p k some = elim (cases_eq p k) [
  | inl is ↦ (let o = one k p is in
      let at = ap (λ j. get_or (with_one_less counts p) j 0) is in
      let was = ap (λ j. get_or counts j 0) is in
      let now = get_or-set_same counts p (get_or counts p 0 - 1) 0 (inside_from_some counts p some) in omega arith)
  | inr not ↦ (let z = none k p not in
      let now = get_or-set_other counts p k (get_or counts p 0 - 1) 0 (λ e. not (sym e)) in omega arith)
]

get_or-zeros : (n k : ℕ) → get_or {A = ℕ} (replicate n 0) k 0 ≡ 0
get_or-zeros zero k = refl
get_or-zeros (suc n) zero = refl
get_or-zeros (suc n) (suc k) = get_or-zeros n k

get_or-lengthen : (counts : List ℕ) (n k : ℕ) → get_or (counts ++ replicate n 0) k 0 ≡ get_or counts k 0
get_or-lengthen [] n k = get_or-zeros n k
get_or-lengthen (c ∷ cs) n zero = refl
get_or-lengthen (c ∷ cs) n (suc k) = get_or-lengthen cs n k

-- ---- all places

pub counts_lengthen : (base n : ℕ) (counts : List ℕ) (cs : List (ℕ × ℕ)) → Counts base counts cs → Counts base (counts ++ replicate n 0) cs
counts_lengthen base n counts cs h k = get_or-lengthen counts n k ∙ h k

pub counts_push : (base id v p : ℕ) (counts : List ℕ) (cs : List (ℕ × ℕ)) → Counts base counts cs → v ≡ base + p → p < length counts → Counts base (with_one_more counts p) (cs ++ (id, v) ∷ [])
counts_push base id v p counts cs h at inside k =
    let here = h k in
    let more = get_or-one_more counts p k inside in
    let s = active_at-push (base + k) id v cs in
    let shift = one_at-shift base k p v at in
    omega arith

-- at the place of a cursor the count isn't 0
pub some_at_place : (base v p : ℕ) (test : ℕ → Bool) (counts : List ℕ) (cs : List (ℕ × ℕ)) → Counts base counts cs → lookup test cs ≡ Some v → v ≡ base + p → 0 < get_or counts p 0
some_at_place base v p test counts cs h e at = let here = h p in let some = active_at-some test cs v (base + p) e at in omega arith

pub counts_set_value : (base v w p q : ℕ) (test : ℕ → Bool) (counts : List ℕ) (cs : List (ℕ × ℕ)) → Counts base counts cs → lookup test cs ≡ Some v → v ≡ base + p → w ≡ base + q → q < length counts → Counts base (with_one_more (with_one_less counts p) q) (set_value test cs w)
counts_set_value base v w p q test counts cs h e at to inside k =
    let here = h k in
    let less = get_or-one_less counts p k (some_at_place base v p test counts cs h e at) in
    let long = length-set counts p (get_or counts p 0 - 1) in
    let more = get_or-one_more (with_one_less counts p) q k (omega arith) in
    let s = active_at-set_value (base + k) test cs v w e in
    let from = one_at-shift base k p v at in
    let into = one_at-shift base k q w to in
    omega arith

pub counts_remove_entry : (base v p : ℕ) (test : ℕ → Bool) (counts : List ℕ) (cs : List (ℕ × ℕ)) → Counts base counts cs → lookup test cs ≡ Some v → v ≡ base + p → Counts base (with_one_less counts p) (remove_entry test cs)
counts_remove_entry base v p test counts cs h e at k =
    let here = h k in
    let less = get_or-one_less counts p k (some_at_place base v p test counts cs h e at) in
    let s = active_at-remove_entry (base + k) test cs v e in
    let from = one_at-shift base k p v at in
    omega arith

-- a cursor below the base is counted nowhere
pub counts_remove_below : (base v : ℕ) (test : ℕ → Bool) (counts : List ℕ) (cs : List (ℕ × ℕ)) → Counts base counts cs → lookup test cs ≡ Some v → v < base → Counts base counts (remove_entry test cs)
counts_remove_below base v test counts cs h e below k =
    let here = h k in
    let s = active_at-remove_entry (base + k) test cs v e in
    let z = none (base + k) v (λ is. absurd (omega arith)) in
    omega arith

-- nor is a slow one, if no more is behind the base than there is room for
pub counts_active : (room base end : ℕ) (counts : List ℕ) (cs : List (ℕ × ℕ)) → end ≤ base + room → Counts base counts cs → Counts base counts (active_in room end cs)
counts_active room base end counts cs near h k = h k ∙ sym (active_at-active_in room end (base + k) cs (omega arith))

-- ---- the base

pub counts_drop : (base r : ℕ) (counts : List ℕ) (cs : List (ℕ × ℕ)) → Counts base counts cs → Counts (base + r) (drop r counts) cs
counts_drop base r counts cs h k = get_or-drop r counts k 0 ∙ h (r + k) ∙ ap (λ n. active_at n cs) (omega arith)

-- no cursor is before the first place
none_before : (base end r : ℕ) (counts : List ℕ) (cs : List (ℕ × ℕ)) → base ≤ least end cs → Counts base counts cs → r ≤ first_place counts → base + r ≤ end → base + r ≤ least end cs
none_before base end r counts cs low h before inside = elim (cases_lt (least end cs) (base + r)) [
  | inl below ↦ (let at : base + (least end cs - base) ≡ least end cs = omega arith in
      let none = ltb-false 0 (get_or counts (least end cs - base) 0) (fails_before_first (λ n. nat_lt 0 n) counts (least end cs - base) 0 (omega arith)) in
      let here = h (least end cs - base) ∙ ap (λ n. active_at n cs) at in
      elim (least_met end cs) [ inl last ↦ absurd (omega arith) | inr some ↦ absurd (omega arith) ])
  | inr above ↦ above
]

-- a cursor is at the first place, if there is one
some_at_first : (base end r : ℕ) (counts : List ℕ) (cs : List (ℕ × ℕ)) → Counts base counts cs → r ≡ first_place counts → r < length counts → least end cs ≤ base + r
some_at_first base end r counts cs h is inside =
    let some = ltb-true 0 (get_or counts (first_place counts) 0) (passes_at_first (λ n. nat_lt 0 n) counts 0 (omega arith)) in
    let here = h r in
    let same = ap (λ n. get_or counts n 0) is in
    least_bound_active end (base + r) cs (omega arith)

-- the base that the counts tell
pub base_told : (base end size r : ℕ) (counts : List ℕ) (cs : List (ℕ × ℕ)) → base ≤ least end cs → Counts base counts cs → end ≡ base + size → length counts ≡ size + 1 → r ≡ min (first_place counts) size → base + r ≡ least end cs
base_told base end size r counts cs low h to long is =
    let above = none_before base end r counts cs low h (omega arith) (omega arith) in
    elim (cases_lt (first_place counts) size) [
      | inl inside ↦ (let below = some_at_first base end r counts cs h (omega arith) (omega arith) in omega arith)
      | inr all ↦ (let below = least_bound end cs in omega arith)
    ]

-- ---- the first place

-- it is 0 if a cursor is there
pub first_at_base : (counts : List ℕ) → 0 < get_or counts 0 0 → 0 ≡ first_place counts
first_at_base counts some = elim (cases_lt 0 (first_place counts)) [
  | inl later ↦ (let none = ltb-false 0 (get_or counts 0 0) (fails_before_first (λ n. nat_lt 0 n) counts 0 0 later) in absurd (omega arith))
  | inr at ↦ omega arith
]

-- and else it is a later one
pub first_later : (n : ℕ) (counts : List ℕ) → nat_lt 0 n ≡ false → first_place (n ∷ counts) ≡ 1 + first_place counts
first_later n counts none = simp none refl

-- it stays 0 with more places
pub first_stays : (over n : ℕ) (counts longer : List ℕ) → over ≡ 0 → longer ≡ drop over counts ++ replicate n 0 → 0 < get_or counts 0 0 → 0 ≡ first_place longer
first_stays over n counts longer none is some =
    let l = ap (λ (c : List ℕ). get_or c 0 0) is in
    let z = get_or-lengthen (drop over counts) n 0 in
    let d = get_or-drop over counts 0 0 in
    let at_zero : over + 0 ≡ 0 = omega arith in
    let at = ap (λ k. get_or counts k 0) at_zero in
    first_at_base longer (omega arith)

-- and the place at which all cursors are
pub first_of_all : (base q : ℕ) (counts : List ℕ) (cs : List (ℕ × ℕ)) → Counts base counts cs → 0 < get_or counts q 0 → get_or counts q 0 ≡ length cs → q ≡ first_place counts
first_of_all base q counts cs h some all =
    let inside = inside_from_some counts q some in
    let here = h q in
    let first = h (first_place counts) in
    elim (cases_lt (first_place counts) q) [
      | inl before ↦ (let other = ltb-true 0 (get_or counts (first_place counts) 0) (passes_at_first (λ n. nat_lt 0 n) counts 0 (omega arith)) in
          let both = active_at-two (base + first_place counts) (base + q) cs (λ e. absurd (omega arith)) in absurd (omega arith))
      | inr above ↦ elim (cases_lt q (first_place counts)) [
        | inl later ↦ (let none = ltb-false 0 (get_or counts q 0) (fails_before_first (λ n. nat_lt 0 n) counts q 0 later) in absurd (omega arith))
        | inr at ↦ omega arith
      ]
    ]

-- Cursors in the order of their ids: where an id is, and that the order stays.
use Rattle.std.proofs.Common.{ℕ, zero, suc, ◌≡◌, ◌<◌, ◌≤◌, Bool, true, false, List, [], ◌∷◌, ◌++◌, Some, None, length, get_or, set, drop, All, nat_eq, nat_lt, if◌then◌else◌, inl, inr, refl, sym, ap, subst, ◌∙◌, arith}
use Rattle.std.proofs.lemmas.Bool.{ne_eqb, eq-eqb, cases_Bool, ltb-true, ltb-false}
use Rattle.std.proofs.lemmas.List.Elements.{All-head, All-tail, All-push, All-weaker}
use Rattle.std.proofs.lemmas.List.{map-append}
use Rattle.std.proofs.lemmas.Map.Views.{All-map-remove_entry}
use Rattle.std.proofs.lemmas.Map.{keys-set_value, none_passes_from_lookup, NonePasses}
use Rattle.std.proofs.lemmas.Option.{slice_get_within, slice_get-get_or, slice_get_read, get_or_from_slice_get}
use Rattle.std.proofs.lemmas.List.Sorted.{IsNonDecreasingBy-from_default, IsPartitionedBy-ltb}
use Rattle.std.specs.List.{slice_get, remove}
use Rattle.std.specs.List.Sorted.{IsPartitionedBy, IsPartitionPoint}
use Rattle.std.specs.Map.{lookup, set_value, remove_entry, keys_of}
use Rattle.std.specs.Option.{IfSome}
use Rattle.hub_record.specs.Backlog.{IsRising}

-- an id above the first one isn't the first one
differs : (c : ℕ × ℕ) (id : ℕ) → c.0 < id → nat_eq id c.0 ≡ false
differs c id above = ne_eqb id c.0 (λ e. omega arith)

-- what is at a later place is above the first one
later : (c : ℕ × ℕ) (cs : List (ℕ × ℕ)) (i id v : ℕ) → All (λ k. c.0 < k) (keys_of cs) → i < length cs → get_or cs i (0, 0) ≡ (id, v) → c.0 < id
later c [] i id v above inside at = absurd (omega arith)
later c (d ∷ ds) zero id v above inside at = let here = All-head (λ k. c.0 < k) d.0 (keys_of ds) above in let is = ap (λ (p : ℕ × ℕ). p.0) at in omega arith
later c (d ∷ ds) (suc i) id v above inside at = later c ds i id v (All-tail (λ k. c.0 < k) d.0 (keys_of ds) above) (omega arith) at

lookup_at : (cs : List (ℕ × ℕ)) (i id v : ℕ) → IsRising cs → i < length cs → get_or cs i (0, 0) ≡ (id, v) → lookup (nat_eq id) cs ≡ Some v
lookup_at [] i id v up inside at = absurd (omega arith)
lookup_at (c ∷ cs) zero id v up inside at =
    let same : nat_eq id c.0 ≡ true = eq-eqb id c.0 (sym (ap (λ (p : ℕ × ℕ). p.0) at)) in
    simp same (ap (λ (p : ℕ × ℕ). Some p.1) at)
lookup_at (c ∷ cs) (suc i) id v up inside at =
    let no = differs c id (later c cs i id v up.0 (omega arith) at) in
    simp no (lookup_at cs i id v up.1 (omega arith) at)

set_value_at : (cs : List (ℕ × ℕ)) (i id v w : ℕ) → IsRising cs → i < length cs → get_or cs i (0, 0) ≡ (id, v) → set cs i (id, w) ≡ set_value (nat_eq id) cs w
set_value_at [] i id v w up inside at = absurd (omega arith)
set_value_at (c ∷ cs) zero id v w up inside at =
    let is = ap (λ (p : ℕ × ℕ). p.0) at in
    let same : nat_eq id c.0 ≡ true = eq-eqb id c.0 (sym is) in
    simp same (ap (λ k. (k, w) ∷ cs) (sym is))
set_value_at (c ∷ cs) (suc i) id v w up inside at =
    let no = differs c id (later c cs i id v up.0 (omega arith) at) in
    simp no (ap (λ r. c ∷ r) (set_value_at cs i id v w up.1 (omega arith) at))

remove_entry_at : (cs : List (ℕ × ℕ)) (i id v : ℕ) → IsRising cs → i < length cs → get_or cs i (0, 0) ≡ (id, v) → remove cs i ≡ remove_entry (nat_eq id) cs
remove_entry_at [] i id v up inside at = absurd (omega arith)
remove_entry_at (c ∷ cs) zero id v up inside at =
    let same : nat_eq id c.0 ≡ true = eq-eqb id c.0 (sym (ap (λ (p : ℕ × ℕ). p.0) at)) in
    simp same refl
remove_entry_at (c ∷ cs) (suc i) id v up inside at =
    let no = differs c id (later c cs i id v up.0 (omega arith) at) in
    simp no (ap (λ r. c ∷ r) (remove_entry_at cs i id v up.1 (omega arith) at))

none_above : (id : ℕ) (cs : List (ℕ × ℕ)) → All (λ k. id < k) (keys_of cs) → lookup (nat_eq id) cs ≡ None
none_above id [] above = refl
none_above id (c ∷ cs) above =
    let here = All-head (λ k. id < k) c.0 (keys_of cs) above in
    let no : nat_eq id c.0 ≡ false = ne_eqb id c.0 (λ e. omega arith) in
    simp no (none_above id cs (All-tail (λ k. id < k) c.0 (keys_of cs) above))

-- what is at the place of a cursor, as a number
at_place : (cs : List (ℕ × ℕ)) (i id v : ℕ) → slice_get cs i ≡ Some (id, v) → (i < length cs) × (get_or cs i (0, 0) ≡ (id, v))
at_place cs i id v at = (slice_get_within cs i (id, v) at, get_or_from_slice_get cs i (id, v) (0, 0) at)

-- ---- a cursor that was found at a place

pub lookup-found : (cs : List (ℕ × ℕ)) (i id v : ℕ) → IsRising cs → slice_get cs i ≡ Some (id, v) → lookup (nat_eq id) cs ≡ Some v
lookup-found cs i id v up at = let p = at_place cs i id v at in lookup_at cs i id v up p.0 p.1

pub set_value-found : (cs : List (ℕ × ℕ)) (i id v w : ℕ) → IsRising cs → slice_get cs i ≡ Some (id, v) → set cs i (id, w) ≡ set_value (nat_eq id) cs w
set_value-found cs i id v w up at = let p = at_place cs i id v at in set_value_at cs i id v w up p.0 p.1

pub remove_entry-found : (cs : List (ℕ × ℕ)) (i id v : ℕ) → IsRising cs → slice_get cs i ≡ Some (id, v) → remove cs i ≡ remove_entry (nat_eq id) cs
remove_entry-found cs i id v up at = let p = at_place cs i id v at in remove_entry_at cs i id v up p.0 p.1

-- ---- an id that has none

pub remove_entry-none : (test : ℕ → Bool) (cs : List (ℕ × ℕ)) → lookup test cs ≡ None → remove_entry test cs ≡ cs
remove_entry-none test cs none = by cs (none_passes_from_lookup test cs none)
  where
    by : (cs : List (ℕ × ℕ)) → NonePasses test cs → remove_entry test cs ≡ cs
    by [] h = refl
    by (c ∷ cs) h = simp (h.0) (ap (λ r. c ∷ r) (by cs h.1))

-- ---- the order stays

pub rising-push : (cs : List (ℕ × ℕ)) (id v : ℕ) → IsRising cs → All (λ k. k < id) (keys_of cs) → IsRising (cs ++ (id, v) ∷ [])
rising-push [] id v up below = (λ k d l. absurd (omega arith), tt)
rising-push (c ∷ cs) id v up below =
    let here = All-head (λ k. k < id) c.0 (keys_of cs) below in
    let rest = All-tail (λ k. k < id) c.0 (keys_of cs) below in
    (subst (All (λ k. c.0 < k)) (sym (map-append (λ (d : ℕ × ℕ). d.0) cs ((id, v) ∷ []))) (All-push (λ k. c.0 < k) (keys_of cs) id up.0 here), rising-push cs id v up.1 rest)

pub rising-push_if : (ok : Bool) (cs after : List (ℕ × ℕ)) (id v : ℕ) → IsRising cs → All (λ k. k < id) (keys_of cs) → after ≡ (if ok then cs ++ (id, v) ∷ [] else cs) → IsRising after
rising-push_if true cs after id v up below is = subst IsRising (sym is) (rising-push cs id v up below)
rising-push_if false cs after id v up below is = subst IsRising (sym is) up

same_keys : (cs ds : List (ℕ × ℕ)) → keys_of ds ≡ keys_of cs → IsRising cs → IsRising ds
same_keys [] [] same up = tt
same_keys [] (d ∷ ds) same up = absurd (let l = ap length same in omega arith)
same_keys (c ∷ cs) [] same up = tt
same_keys (c ∷ cs) (d ∷ ds) same up =
    let rest : keys_of ds ≡ keys_of cs = ap (drop 1) same in
    let first : d.0 ≡ c.0 = ap (λ ks. get_or ks 0 0) same in
    (subst (λ n. All (λ k. n < k) (keys_of ds)) (sym first) (subst (All (λ k. c.0 < k)) (sym rest) up.0), same_keys cs ds rest up.1)

pub rising-set_value : (test : ℕ → Bool) (cs : List (ℕ × ℕ)) (w : ℕ) → IsRising cs → IsRising (set_value test cs w)
rising-set_value test cs w up = same_keys cs (set_value test cs w) (keys-set_value test cs w) up

pub rising-remove_entry : (test : ℕ → Bool) (cs : List (ℕ × ℕ)) → IsRising cs → IsRising (remove_entry test cs)
rising-remove_entry test [] up = tt
rising-remove_entry test (c ∷ cs) up = elim (cases_Bool (test c.0)) [
  | inl t ↦ simp t up.1
  | inr f ↦ simp f (All-map-remove_entry test (λ (d : ℕ × ℕ). d.0) (λ k. c.0 < k) cs up.0, rising-remove_entry test cs up.1)
]

-- ---- the search

below_later : (cs : List (ℕ × ℕ)) (i j : ℕ) → IsRising cs → i ≤ j → j < length cs → (get_or cs i (0, 0)).0 ≤ (get_or cs j (0, 0)).0
below_later [] i j up le inside = absurd (omega arith)
below_later (c ∷ cs) zero zero up le inside = omega arith
below_later (c ∷ cs) zero (suc j) up le inside = let here = later c cs j _ _ up.0 (omega arith) refl in omega arith
below_later (c ∷ cs) (suc i) zero up le inside = absurd (omega arith)
below_later (c ∷ cs) (suc i) (suc j) up le inside = below_later cs i j up.1 (omega arith) (omega arith)

pub parted : (cs : List (ℕ × ℕ)) (id : ℕ) → IsRising cs → IsPartitionedBy (λ (c : ℕ × ℕ). nat_lt c.0 id) cs
parted cs id up = IsPartitionedBy-ltb (λ (c : ℕ × ℕ). c.0) cs id (IsNonDecreasingBy-from_default (λ (c : ℕ × ℕ). c.0) cs (0, 0) (λ i j le inside. below_later cs i j up le inside))

-- what comes before the place is below the id, and what is at it isn't the id
missed : (cs : List (ℕ × ℕ)) (i id : ℕ) → IsRising cs → ((k : ℕ) → k < i → k < length cs → (get_or cs k (0, 0)).0 < id) → ((k : ℕ) → i ≤ k → k < length cs → id ≤ (get_or cs k (0, 0)).0) → (i < length cs → (get_or cs i (0, 0)).0 ≡ id → ⊥) → lookup (nat_eq id) cs ≡ None
missed [] i id up before after not = refl
missed (c ∷ cs) zero id up before after not =
    let here = after 0 (omega arith) (omega arith) in
    let apart = not (omega arith) in
    let no : nat_eq id c.0 ≡ false = ne_eqb id c.0 (λ e. apart (sym e)) in
    simp no (none_above id cs (All-weaker (λ k. c.0 < k) (λ k. id < k) (λ k l. omega arith) (keys_of cs) up.0))
missed (c ∷ cs) (suc i) id up before after not =
    let here = before 0 (omega arith) (omega arith) in
    let no : nat_eq id c.0 ≡ false = ne_eqb id c.0 (λ e. omega arith) in
    simp no (missed cs i id up.1 (λ k below inside. before (suc k) (omega arith) (omega arith)) (λ k above inside. after (suc k) (omega arith) (omega arith)) (λ inside is. not (omega arith) is))

pub lookup-missed : (cs : List (ℕ × ℕ)) (i id : ℕ) → IsRising cs → IsPartitionPoint (λ (c : ℕ × ℕ). nat_lt c.0 id ≡ true) (λ (c : ℕ × ℕ). nat_lt c.0 id ≡ false) cs i → ((v : ℕ) → slice_get cs i ≡ Some (id, v) → ⊥) → lookup (nat_eq id) cs ≡ None
lookup-missed cs i id up point not =
    missed cs i id up (λ k below inside. ltb-true _ _ (point.0 k (0, 0) (omega arith) below)) (λ k above inside. ltb-false _ _ (point.1 k (0, 0) above inside))
    (λ inside is. not (get_or cs i (0, 0)).1 (slice_get-get_or cs i (0, 0) inside ∙ ap (λ n. Some (n, (get_or cs i (0, 0)).1)) is))

-- ---- a cursor that is moved

read_at : (cs : List (ℕ × ℕ)) (i : ℕ) (x : ℕ × ℕ) → i < length cs → x ≡ get_or cs i x → slice_get cs i ≡ Some (x.0, x.1)
read_at cs i x inside is = slice_get_read cs (length cs) i x refl inside is

pub set-moved : (cs now : List (ℕ × ℕ)) (i w : ℕ) (x : ℕ × ℕ) → cs ≡ now → IsRising cs → i < length now → x ≡ get_or cs i x → IfSome (slice_get now i) (λ c. set cs i (x.0, w) ≡ set_value (nat_eq c.0) now w)
set-moved cs now i w x same up inside is =
    let at = read_at cs i x (omega (arith, ap length same)) is in
    subst (λ z. IfSome (slice_get z i) (λ c. set cs i (x.0, w) ≡ set_value (nat_eq c.0) z w)) same
    (subst (λ o. IfSome o (λ c. set cs i (x.0, w) ≡ set_value (nat_eq c.0) cs w)) (sym at) (set_value-found cs i x.0 x.1 w up at))

pub rising-moved : (cs now : List (ℕ × ℕ)) (i w : ℕ) (x : ℕ × ℕ) → cs ≡ now → IsRising cs → i < length now → x ≡ get_or cs i x → IsRising (set cs i (x.0, w))
rising-moved cs now i w x same up inside is =
    let at = read_at cs i x (omega (arith, ap length same)) is in
    subst IsRising (sym (set_value-found cs i x.0 x.1 w up at)) (rising-set_value (nat_eq x.0) cs w up)

pub moved_to : (cs now : List (ℕ × ℕ)) (i id v w : ℕ) → slice_get cs i ≡ Some (id, v) → IfSome (slice_get cs i) (λ c. now ≡ set_value (nat_eq c.0) cs w) → now ≡ set_value (nat_eq id) cs w
moved_to cs now i id v w at moved = subst (λ o. IfSome o (λ c. now ≡ set_value (nat_eq c.0) cs w)) at moved

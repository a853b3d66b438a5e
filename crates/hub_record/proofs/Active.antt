-- How many cursors are at a number, and the least of the cursors, after a change of one cursor.
use Rattle.std.proofs.Common.{ℕ, ◌≡◌, ◌==◌, ◌+◌, ◌<◌, ◌≤◌, Bool, cond, List, [], ◌∷◌, ◌++◌, Some, length, count_by, ap, ◌∙◌, inl, inr, arith, ◌⊎◌, min, All, refl}
use Rattle.std.proofs.lemmas.Bool.{cases_eq, eq-eqb, ne_eqb, cases_Bool, cases_lt}
use Rattle.std.proofs.lemmas.List.{map-append}
use Rattle.std.proofs.lemmas.List.Sums.{sum_by-cons, sum_by_push, count_by-le-length}
use Rattle.std.proofs.lemmas.Map.Entries.{length-values_of, sum_by-set_value, sum_by-remove_entry}
use Rattle.std.specs.Option.{option_map, unwrap_or}
use Rattle.std.specs.Map.{lookup, set_value, remove_entry, values_of}
use Rattle.hub_record.specs.Backlog.{active_at}
use Rattle.std.proofs.lemmas.List.Elements.{All-head, All-tail}
use Rattle.hub_record.specs.World.{least}

-- what a cursor at v counts at the number n
abbrev pub one_at : ℕ → ℕ → ℕ
one_at n v = cond (v == n) 1 0

pub one : (n v : ℕ) → v ≡ n → one_at n v ≡ 1
one n v is = ap (λ b. cond b 1 0) (eq-eqb v n is)

pub none : (n v : ℕ) → (v ≡ n → ⊥) → one_at n v ≡ 0
none n v not = ap (λ b. cond b 1 0) (ne_eqb v n not)

pub active_at-cons : (n : ℕ) (c : ℕ × ℕ) (cs : List (ℕ × ℕ)) → active_at n (c ∷ cs) ≡ one_at n c.1 + active_at n cs
active_at-cons n c cs = sum_by-cons (one_at n) c.1 (values_of cs)

pub active_at-push : (n id v : ℕ) (cs : List (ℕ × ℕ)) → active_at n (cs ++ (id, v) ∷ []) ≡ active_at n cs + one_at n v
active_at-push n id v cs = ap (count_by (λ v. v == n)) (map-append (λ (c : ℕ × ℕ). c.1) cs ((id, v) ∷ [])) ∙ sum_by_push (one_at n) (values_of cs) v

pub active_at-set_value : (n : ℕ) (test : ℕ → Bool) (cs : List (ℕ × ℕ)) (v w : ℕ) → lookup test cs ≡ Some v → active_at n (set_value test cs w) + one_at n v ≡ active_at n cs + one_at n w
active_at-set_value n test cs v w e = sum_by-set_value (one_at n) test cs v w e

pub active_at-remove_entry : (n : ℕ) (test : ℕ → Bool) (cs : List (ℕ × ℕ)) (v : ℕ) → lookup test cs ≡ Some v → active_at n (remove_entry test cs) + one_at n v ≡ active_at n cs
active_at-remove_entry n test cs v e =
    let s = sum_by-remove_entry (one_at n) test cs in
    let k = ap (λ o. unwrap_or (option_map (one_at n) o) 0) e in
    omega arith

-- at a cursor there is one at least
pub active_at-some : (test : ℕ → Bool) (cs : List (ℕ × ℕ)) (v n : ℕ) → lookup test cs ≡ Some v → v ≡ n → 0 < active_at n cs
active_at-some test cs v n e at = let s = active_at-remove_entry n test cs v e in let o = one n v at in omega arith

pub active_at-le-length : (n : ℕ) (cs : List (ℕ × ℕ)) → active_at n cs ≤ length cs
active_at-le-length n cs = let k = count_by-le-length (λ v. v == n) (values_of cs) in let l = length-values_of cs in omega arith

-- at two numbers there are no more than all
pub active_at-two : (m n : ℕ) (cs : List (ℕ × ℕ)) → (m ≡ n → ⊥) → active_at m cs + active_at n cs ≤ length cs
active_at-two m n [] apart = omega arith
active_at-two m n (c ∷ cs) apart =
    let ih = active_at-two m n cs apart in
    let a = active_at-cons m c cs in
    let b = active_at-cons n c cs in
    elim (cases_eq c.1 m) [
      | inl is ↦ (let o = one m c.1 is in let z = none n c.1 (λ e. apart (omega arith)) in omega arith)
      | inr not ↦ (let z = none m c.1 not in
          elim (cases_eq c.1 n) [ inl is ↦ (let o = one n c.1 is in omega arith) | inr other ↦ (let y = none n c.1 other in omega arith) ])
    ]

-- ---- the least of the cursors, after a change of one cursor

pub least_bound : (d : ℕ) (cs : List (ℕ × ℕ)) → least d cs ≤ d
least_bound d [] = omega arith
least_bound d (c ∷ cs) = omega (arith, least_bound d cs)

pub least_bound_at : (d : ℕ) (test : ℕ → Bool) (cs : List (ℕ × ℕ)) (v : ℕ) → lookup test cs ≡ Some v → least d cs ≤ v
least_bound_at d test [] v e = cc
least_bound_at d test (c ∷ cs) v e =
    elim (cases_Bool (test c.0)) [
      | inl t ↦ (let k = simp t at e in let is : c.1 ≡ v = cc in omega arith)
      | inr t ↦ (let k = least_bound_at d test cs v (simp t at e) in omega arith)
    ]

-- a number at which there is a cursor
pub least_bound_active : (d n : ℕ) (cs : List (ℕ × ℕ)) → 0 < active_at n cs → least d cs ≤ n
least_bound_active d n [] h = absurd (omega arith)
least_bound_active d n (c ∷ cs) h = elim (cases_eq c.1 n) [
  | inl is ↦ omega arith
  | inr not ↦ (let k = active_at-cons n c cs in let z = none n c.1 not in let b = least_bound_active d n cs (omega arith) in omega arith)
]

-- the least is d, or a cursor is at it
pub least_met : (d : ℕ) (cs : List (ℕ × ℕ)) → (least d cs ≡ d) ⊎ (0 < active_at (least d cs) cs)
least_met d [] = inl refl
least_met d (c ∷ cs) =
    let k = active_at-cons (min c.1 (least d cs)) c cs in
    elim (cases_lt (least d cs) c.1) [
      | inl below ↦ (let is : min c.1 (least d cs) ≡ least d cs = omega arith in
          let same = ap (λ n. active_at n cs) is in
          elim (least_met d cs) [ inl at ↦ inl (omega arith) | inr some ↦ inr (omega arith) ])
      | inr above ↦ (let o = one (min c.1 (least d cs)) c.1 (omega arith) in inr (omega arith))
    ]

pub least-push : (d id : ℕ) (cs : List (ℕ × ℕ)) → least d (cs ++ (id, d) ∷ []) ≡ least d cs
least-push d id [] = omega arith
least-push d id (c ∷ cs) = ap (min c.1) (least-push d id cs)

pub least-set_value : (d : ℕ) (test : ℕ → Bool) (cs : List (ℕ × ℕ)) (v w : ℕ) → lookup test cs ≡ Some v → v ≤ w → least d cs ≤ least d (set_value test cs w)
least-set_value d test [] v w e l = omega arith
least-set_value d test (c ∷ cs) v w e l =
    elim (cases_Bool (test c.0)) [
      | inl t ↦ (let k = simp t at e in let is : c.1 ≡ v = cc in simp t (omega arith))
      | inr t ↦ (let ih = least-set_value d test cs v w (simp t at e) l in simp t (omega arith))
    ]

pub least-remove_entry : (d : ℕ) (test : ℕ → Bool) (cs : List (ℕ × ℕ)) → least d cs ≤ least d (remove_entry test cs)
least-remove_entry d test [] = omega arith
least-remove_entry d test (c ∷ cs) =
    let ih = least-remove_entry d test cs in
    elim (cases_Bool (test c.0)) [ inl t ↦ simp t (omega arith) | inr t ↦ simp t (omega arith) ]

-- with more events the least cursor stays, if there is one
pub least_grown : (d e : ℕ) (cs : List (ℕ × ℕ)) → (cs ≡ [] → ⊥) → d ≤ e → All (λ n. n ≤ d) (values_of cs) → least e cs ≡ least d cs
least_grown d e [] some l h = absurd (some refl)
least_grown d e (c ∷ []) some l h = let k = All-head (λ n. n ≤ d) c.1 [] h in omega arith
least_grown d e (c ∷ (x ∷ cs)) some l h = ap (min c.1) (least_grown d e (x ∷ cs) (λ (z : (x ∷ cs) ≡ []). cc) l (All-tail (λ n. n ≤ d) c.1 (values_of (x ∷ cs)) h))

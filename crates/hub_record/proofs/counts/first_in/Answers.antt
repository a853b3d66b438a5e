use Rattle.std.proofs.Common.{ℕ, ◌≡◌, ◌+◌, ◌<◌, ◌≤◌, List, ◌++◌, Option, Some, None, length, cond, not, nat_lt, ap, sym, ◌∙◌, inl, inr, arith, ne_eqb, eq-eqb, eqb}
use Rattle.std.specs.Option.{unwrap_or}
use Rattle.std.specs.List.{position}
use Rattle.std.proofs.lemmas.Bool.{cases_lt, lt-ltb, le-ltb}
use Rattle.std.proofs.lemmas.List.Sums.{prefix_len-le-length}
use Rattle.std.proofs.lemmas.List.Folds.{prefix_len-append}
use Rattle.hub_record.specs.Backlog.{first_place}
use Rattle.hub_record.proofs.counts.first_in.Goals as goal

abbrev found : ℕ → ℕ → Option ℕ
found n all = cond (nat_lt n all) (Some n) None

or_all : (n all : ℕ) → n ≤ all → unwrap_or (found n all) all ≡ n
or_all n all l = elim (cases_lt n all) [
  | inl inside ↦ ap (λ b. unwrap_or (cond b (Some n) None) all) (lt-ltb n all inside)
  | inr past ↦ ap (λ b. unwrap_or (cond b (Some n) None) all) (le-ltb n all past) ∙ omega arith
]

found_at : (n all place : ℕ) → found n all ≡ Some place → (n ≡ place) × (n < all)
found_at n all place is = elim (cases_lt n all) [
  | inl inside ↦ let here : Some n ≡ Some place = sym (ap (λ b. cond b (Some n) None) (lt-ltb n all inside)) ∙ is in (cc, inside)
  | inr past ↦ let none : None ≡ Some place = sym (ap (λ b. cond b (Some n) None) (le-ltb n all past)) ∙ is in absurd (cc)
]

found_none : (n all : ℕ) → n ≤ all → found n all ≡ None → n ≡ all
found_none n all l is = elim (cases_lt n all) [
  | inl inside ↦ let some : None ≡ Some n = sym is ∙ ap (λ b. cond b (Some n) None) (lt-ltb n all inside) in absurd (cc)
  | inr past ↦ omega arith
]

-- the first place in a list of two parts
module _ (front back : List ℕ) where
  split : first_place (front ++ back) ≡ cond (eqb (first_place front) (length front)) (length front + first_place back) (first_place front)
  split = prefix_len-append (λ n. not (nat_lt 0 n)) front back

  in_front : (place : ℕ) → position (λ n. nat_lt 0 n) front ≡ Some place → place ≡ first_place (front ++ back)
  in_front place is =
      let (here, inside) = found_at (first_place front) (length front) place is in
      sym here ∙ sym (split ∙ ap (λ b. cond b (length front + first_place back) (first_place front)) (ne_eqb (first_place front) (length front) (λ e. absurd (omega (arith, e, inside)))))

  in_back : position (λ n. nat_lt 0 n) front ≡ None → length front + unwrap_or (position (λ n. nat_lt 0 n) back) (length back) ≡ first_place (front ++ back)
  in_back none =
      let all = found_none (first_place front) (length front) (prefix_len-le-length (λ n. not (nat_lt 0 n)) front) none in
      ap (λ n. length front + n) (or_all (first_place back) (length back) (prefix_len-le-length (λ n. not (nat_lt 0 n)) back))
      ∙ sym (split ∙ ap (λ b. cond b (length front + first_place back) (first_place front)) (eq-eqb (first_place front) (length front) all))

pub returns-in-Some : goal.returns-in-Some
returns-in-Some c =
    let (front, back) = c.as_slices.result in
    in_front front.now back.now c.in-Some.place (sym c.first_counted.ensures ∙ c.in-Some.is) ∙ ap first_place c.as_slices.ensures

pub returns : goal.returns
returns c =
    let (front, back) = c.as_slices.result in
    ap (λ n. length front.now + n) (c.unwrap_or.ensures ∙ ap (λ o. unwrap_or o (length back.now)) c.first_counted-2.ensures)
    ∙ in_back front.now back.now (sym c.first_counted.ensures ∙ c.in_default.is) ∙ ap first_place c.as_slices.ensures

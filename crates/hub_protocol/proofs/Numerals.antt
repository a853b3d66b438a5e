-- The numeral of a number: its digits, without leading zeros, at most 13.
use Rattle.std.proofs.Common.{◌⊎◌, inl, inr, ◌≡◌, ℕ, ◌+◌, ◌*◌, ◌-◌, ◌<◌, ◌≤◌, ◌^◌, List, [], ◌∷◌, length, get_or, Bool, true, false, cond, ◌&&◌, None, Some, refl, sym, ap, ◌∙◌, subst, arith, rules, lit<}
use Rattle.std.specs.Fmt.{decimal}
use Rattle.std.specs.Str.{all_ascii_digits}
use Rattle.std.specs.Char.{is_ascii_digit}
use Rattle.std.proofs.lemmas.Str.Parse.{IsNumeralModel, numerals_by_fold, digits_value_short}
use Rattle.std.proofs.lemmas.Fmt.{decimal-digits_value, digits_decimal, length-decimal-le, first_decimal, decimal_nonempty, decimal_digit, decimal_injective}
use Rattle.std.proofs.lemmas.Bool.{cases_order}
use Rattle.hub_protocol.specs.Spelling.{IsNumeral}
use Rattle.hub_protocol.specs.Fields.{digits_from, IsNumeralOf}

-- digits as std reads them
abbrev pub read_on : ℕ → List ℕ → ℕ
read_on n [] = n
read_on n (c ∷ cs) = read_on (10 * n + (c - 48)) cs

pub own : IsNumeralModel (λ ds. all_ascii_digits ds ≡ true) (read_on 0)
own = numerals_by_fold _ (search rules) read_on (search rules)

pub digits_from-read_on : (n : ℕ) (ds : List ℕ) → digits_from n ds ≡ cond (all_ascii_digits ds) (Some (read_on n ds)) None
digits_from-read_on n [] = refl
digits_from-read_on n (d ∷ ds) =
    elim (is_ascii_digit d) as (λ t. cond t (digits_from (10 * n + (d - 48)) ds) None ≡ cond (t && all_ascii_digits ds) (Some (read_on (10 * n + (d - 48)) ds)) None) [
      | true ↦ digits_from-read_on (10 * n + (d - 48)) ds
      | false ↦ refl
    ]

pub fits : (n : ℕ) → IsNumeral n → n < 2 ^ 64
fits n h = omega (arith, h)

pub digits_of_numeral : (n : ℕ) → IsNumeral n → all_ascii_digits (decimal n) ≡ true
digits_of_numeral n h = digits_decimal own n (fits n h)

pub same_number : (m n : ℕ) → IsNumeral m → IsNumeral n → decimal m ≡ decimal n → m ≡ n
same_number m n h k e = decimal_injective m n (fits m h) (fits n k) e

-- only the numeral of 0 begins with a zero
pub leading_zero : (n : ℕ) → IsNumeral n → get_or (decimal n) 0 0 ≡ 48 → length (decimal n) ≡ 1
leading_zero n h zero' = elim (cases_order n 0) [
  | inl e ↦ ap length (decimal_digit n (omega (arith, e)))
  | inr more ↦ let first : 48 < get_or (decimal n) 0 0 = first_decimal n (omega (arith, more)) (fits n h) in absurd (omega arith)
]

-- A text of the wrong length, or with a leading zero, isn't a numeral.
pub no_numeral : (text : List ℕ) → (length text ≡ 0) ⊎ ((13 < length text) ⊎ ((1 < length text) × (get_or text 0 0 ≡ 48))) → IsNumeralOf text None
no_numeral text bad n h e =
    let nonempty : 0 < length (decimal n) = decimal_nonempty n (fits n h) in
    let short : length (decimal n) ≤ 13 = length-decimal-le 13 n (lit< tt) h (fits n h) in
    let same : length text ≡ length (decimal n) = ap length e in
    elim bad [
      | inl empty ↦ omega arith
      | inr (inl long) ↦ omega arith
      | inr (inr leading) ↦ let one : length (decimal n) ≡ 1 = leading_zero n h (sym (ap (λ ds. get_or ds 0 0) e) ∙ leading.1) in omega arith
    ]

-- Digits without leading zeros are the numeral of their value.
pub is_numeral : (text : List ℕ) → 0 < length text → length text ≤ 13 → (get_or text 0 0 ≡ 48 → length text ≡ 1) → IsNumeralOf text (digits_from 0 text)
is_numeral text nonempty short one = subst (IsNumeralOf text) (sym (digits_from-read_on 0 text)) (by_test (all_ascii_digits text) refl)
  where
    by_test : (t : Bool) → all_ascii_digits text ≡ t → IsNumeralOf text (cond t (Some (read_on 0 text)) None)
    by_test true digits =
        let small : read_on 0 text < 10 ^ 13 = digits_value_short own text 13 digits short in
        (small, sym (decimal-digits_value own text digits nonempty one (omega (arith, small))))
    by_test false others = λ n h e. let yes : all_ascii_digits text ≡ true = ap all_ascii_digits e ∙ digits_of_numeral n h in cc

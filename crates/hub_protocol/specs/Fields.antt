-- The number that a field says.
use Rattle.std.specs.Prelude.{◌≡◌, ◌≢◌, ℕ, ◌+◌, ◌*◌, ◌-◌, List, [], ◌∷◌, if◌then◌else◌, Option, None, Some, MatchOption}
use Rattle.std.specs.Fmt.{decimal}
use Rattle.std.specs.Char.{is_ascii_digit}
use Rattle.hub_protocol.specs.Spelling.{IsNumeral}

-- the number that goes on with these digits
abbrev pub digits_from : ℕ → List ℕ → Option ℕ
digits_from n [] = Some n
digits_from n (b ∷ bs) = if is_ascii_digit b then digits_from (10 * n + (b - 48)) bs else None

-- the number whose numeral the text is, if it is one
abbrev pub IsNumeralOf : List ℕ → Option ℕ → Type 0
IsNumeralOf text number = MatchOption number ((n : ℕ) → IsNumeral n → text ≢ decimal n) (λ n. IsNumeral n × (text ≡ decimal n))

-- When a pattern has a hit. A pattern is the bytes of its text, and means what the grammar of `regex` reads in them.
use Rattle.std.specs.Prelude.{◌≡◌, ℕ, zero, suc, ◌+◌, ◌-◌, ◌≤◌, ◌<◌, Bool, true, false, List, ◌++◌, length, take, min, is_some, IsSome, chars, Option, Some, None, if◌then◌else◌}
use Rattle.std.specs.Option.{option_map_or}
use Rattle.regex.specs.Patterns.{find_str, default_config}
use Rattle.regex_syntax.specs.Grammar.{read}
use Rattle.hub_letters.specs.declared.mode.TheConstants.{MOST_GATHERED}

-- the text is a pattern
abbrev pub IsPattern : List ℕ → Type 0
IsPattern text = IsSome (read default_config (chars text))

-- the pattern finds a match in the text, taken alone
unfoldable pub finds : List ℕ → List ℕ → Bool
finds pattern text = option_map_or (λ r. is_some (find_str r.0.value text 0)) (read default_config (chars pattern)) false

-- The first k letters of the piece are its least non-empty prefix that, after what was gathered, has no more letters than
-- a listener gathers, and a match.
pub record IsHit (pattern gathered piece : List ℕ) (k : ℕ) : Type 0 where
  pub some : 1 ≤ k
  pub within : k ≤ length piece
  pub short : length gathered + k ≤ MOST_GATHERED
  pub found : finds pattern (gathered ++ take k piece) ≡ true
  pub least : (j : ℕ) → 1 ≤ j → j < k → finds pattern (gathered ++ take j piece) ≡ false

-- there is no such prefix
abbrev pub HasNoHit : List ℕ → List ℕ → List ℕ → Type 0
HasNoHit pattern gathered piece =
    (j : ℕ) → 1 ≤ j → j ≤ length piece → length gathered + j ≤ MOST_GATHERED → finds pattern (gathered ++ take j piece) ≡ false

-- ---- the same as a function

-- the first of the n numbers from i on that passes the test
unfoldable pub first_such : (ℕ → Bool) → ℕ → ℕ → Option ℕ
first_such test i zero = None
first_such test i (suc n) = if test i then Some i else first_such test (i + 1) n

-- how many letters of the piece complete a hit
unfoldable pub hit_length : List ℕ → List ℕ → List ℕ → Option ℕ
hit_length pattern gathered piece =
    first_such (λ k. finds pattern (gathered ++ take k piece)) 1 (min (length piece) (MOST_GATHERED - length gathered))

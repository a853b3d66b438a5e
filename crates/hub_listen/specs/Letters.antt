-- What patterns mean in texts of letters.
use Rattle.std.specs.Prelude.{◌≡◌, ℕ, ◌≤◌, List, [], ◌∷◌, All}
use Rattle.regex_class.specs.Ranges.{Range, in_ranges}
use Rattle.regex_hir.specs.Re.{Re, Rest, attempt}

-- the byte is a letter
abbrev pub IsLetter : ℕ → Type 0
IsLetter byte = (33 ≤ byte) × (byte ≤ 126)

abbrev pub AreLetters : List ℕ → Type 0
AreLetters text = All IsLetter text

-- both classes have the same letters
abbrev pub HasSameLetters : List Range → List Range → Type 0
HasSameLetters a b = (byte : ℕ) → IsLetter byte → in_ranges a byte ≡ in_ranges b byte

-- in each text of letters, from each place and whatever follows, both patterns match alike
pub record SameInLetters (a b : Re) : Type 0 where
  pub at : (text : List ℕ) → AreLetters text → (rest : Rest) (i : ℕ) → attempt text a rest i ≡ attempt text b rest i

-- the same of each pattern of two lists
pub data AreSameInLetters : List Re → List Re → Type 0 where
  none_left : AreSameInLetters [] []
  one_more : (a b : Re) (more others : List Re) → SameInLetters a b → AreSameInLetters more others
      → AreSameInLetters (a ∷ more) (b ∷ others)

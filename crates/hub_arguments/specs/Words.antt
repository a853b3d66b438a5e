-- The words of a command line.
use Rattle.std.specs.Prelude.{◌≡◌, ℕ, List, [], ◌∷◌}

-- the first of the words is this one; text gives the bytes of a word
abbrev pub BeginsWith : {Word : Type 0} → (text : Word → List ℕ) → (first : List ℕ) → List Word → Type 0
BeginsWith text first [] = ⊥
BeginsWith text first (word ∷ words) = text word ≡ first

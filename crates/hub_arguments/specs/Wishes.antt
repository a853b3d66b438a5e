-- What the operands of a wait say.
use Rattle.std.specs.Prelude.{◌≡◌, ◌⊎◌, ℕ, ◌<◌, List, ◌∷◌, length, codes}

-- the word says how many of the services
abbrev pub IsSpan : List ℕ → Type 0
IsSpan word = (word ≡ codes "all") ⊎ (word ≡ codes "any")

-- the word is a state to wait for
abbrev pub IsWant : List ℕ → Type 0
IsWant word = (word ≡ codes "up") ⊎ ((word ≡ codes "ready") ⊎ ((word ≡ codes "down") ⊎ ((word ≡ codes "finished")
    ⊎ ((word ≡ codes "restarted") ⊎ (word ≡ codes "restarted-ready")))))

-- The operands are a state and some names, and how many of the services comes before these, or nothing, which means all.
abbrev pub Says : (operands : List (List ℕ)) → (span want : List ℕ) → (names : List (List ℕ)) → Type 0
Says operands span want names = (0 < length names) × IsWant want
    × (((operands ≡ span ∷ (want ∷ names)) × IsSpan span) ⊎ ((operands ≡ want ∷ names) × (span ≡ codes "all")))

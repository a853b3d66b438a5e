-- More words.
use Rattle.std.proofs.Common.{◌≡◌, ℕ, List, [], ◌∷◌, ◌++◌, sym, subst}
use Rattle.hub_arguments.specs.Words.{BeginsWith}

-- words behind the first one leave it where it is
begins_still : {Word : Type 0} (text : Word → List ℕ) (first : List ℕ) (words more : List Word) → BeginsWith text first words → BeginsWith text first (words ++ more)
begins_still text first [] more h = absurd h
begins_still text first (word ∷ words) more h = h

pub one_word_more : {Word : Type 0} (text : Word → List ℕ) (first : List ℕ) (words grown : List Word) (word : Word)
    → BeginsWith text first words → grown ≡ words ++ word ∷ [] → BeginsWith text first grown
one_word_more text first words grown word h more = subst (BeginsWith text first) (sym more) (begins_still text first words (word ∷ []) h)

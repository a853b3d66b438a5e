-- Lists of words, each with what it means.
use Rattle.std.specs.Prelude.{◌≡◌, ◌≢◌, ℕ, List, All, Any, true, Option, MatchOption}
use Rattle.std.specs.Borrow.{Bor}
use Rattle.std.specs.List.{AllByRecursion, list_any}
use Rattle.std.specs.Str.{bytes_eq}

-- a word and what it means, as the code has them
abbrev pub entry_shown : {T : Type 0} → Bor (List ℕ) × T → List ℕ × T
entry_shown entry = (entry.0.now, entry.1)

-- some entry of the list is this word and this meaning; none, if no entry has the word
abbrev pub IsMeaning : {T : Type 0} → List (List ℕ × T) → List ℕ → Option T → Type 0
IsMeaning list word found = MatchOption found (All (λ entry. word ≢ entry.0) list) (λ x. Any (λ entry. (word ≡ entry.0) × (x ≡ entry.1)) list)

-- each word of the list is that of its meaning
abbrev pub AreWordsOf : {T : Type 0} → (T → List ℕ) → List (List ℕ × T) → Type 0
AreWordsOf word_of list = AllByRecursion (λ entry. entry.0 ≡ word_of entry.1) list

-- the word is in the list
abbrev pub HasWord : {T : Type 0} → List (List ℕ × T) → List ℕ → Type 0
HasWord list word = list_any (λ entry. bytes_eq entry.0 word) list ≡ true

-- The text of numbers, one after another.
use Rattle.std.proofs.Common.{◌≡◌, ℕ, ◌+◌, ◌<◌, ◌≤◌, List, [], ◌∷◌, ◌++◌, length, take, drop, get_or, Option, refl, sym, ap, ◌∙◌, append_assoc, append-nil, take-append-drop, length-append, arith}
use Rattle.std.proofs.lemmas.List.{take_more}
use Rattle.hub_requests.specs.Texts.{number_or_dash, numbers_text}

pub numbers_text-append : (xs ys : List (Option ℕ)) → numbers_text (xs ++ ys) ≡ numbers_text xs ++ numbers_text ys
numbers_text-append [] ys = refl
numbers_text-append (x ∷ xs) ys = simp (numbers_text-append xs ys, append_assoc)

-- one more number
pub numbers_text-more : (xs : List (Option ℕ)) (i : ℕ) (d : Option ℕ) → i < length xs → numbers_text (take (i + 1) xs) ≡ numbers_text (take i xs) ++ 32 ∷ number_or_dash (get_or xs i d)
numbers_text-more xs i d below =
    ap numbers_text (take_more xs i d below) ∙ numbers_text-append (take i xs) (get_or xs i d ∷ [])
    ∙ ap (λ text. numbers_text (take i xs) ++ 32 ∷ text) (append-nil (number_or_dash (get_or xs i d)))

-- a prefix of the numbers has no longer text than all of them
pub length-numbers_text-take : (xs : List (Option ℕ)) (i : ℕ) → length (numbers_text (take i xs)) ≤ length (numbers_text xs)
length-numbers_text-take xs i =
    let whole : length (numbers_text (take i xs)) + length (numbers_text (drop i xs)) ≡ length (numbers_text xs) =
    sym (length-append (numbers_text (take i xs)) (numbers_text (drop i xs))) ∙ ap length (sym (numbers_text-append (take i xs) (drop i xs))) ∙ ap (λ l. length (numbers_text l)) (take-append-drop i xs) in
    omega arith

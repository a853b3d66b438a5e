-- The text of names, one after another.
use Rattle.std.proofs.Common.{◌≡◌, ℕ, zero, suc, ◌+◌, ◌<◌, ◌≤◌, List, [], ◌∷◌, ◌++◌, length, take, get_or, codes, refl, ap, ◌∙◌, append_assoc, append-nil, length-append, arith}
use Rattle.std.proofs.lemmas.List.{take_all, take_more}
use Rattle.hub_requests.specs.declared.reply.Reply.TheVariants.{Listed}
use Rattle.hub_requests.specs.Names.{names_text}
use Rattle.hub_requests.specs.Texts.{text_of}

pub names_text-append : (xs ys : List (List ℕ)) → names_text (xs ++ ys) ≡ names_text xs ++ names_text ys
names_text-append [] ys = refl
names_text-append (x ∷ xs) ys = simp (names_text-append xs ys, append_assoc)

-- the line has `names` before it, and the LF behind it
pub length-listed : (names : List (List ℕ)) → length (text_of (Listed names)) ≡ length (names_text names) + 6
length-listed names =
    let whole = length-append (codes "names" ++ names_text names) (10 ∷ []) in
    let front = length-append (codes "names") (names_text names) in
    omega (arith, whole, front)

pub length-names_text-push : (xs : List (List ℕ)) (x : List ℕ) → length (names_text (xs ++ x ∷ [])) ≡ length (names_text xs) + (length x + 1)
length-names_text-push xs x =
    let whole = ap length (names_text-append xs (x ∷ [])) in
    let parts = length-append (names_text xs) (32 ∷ (x ++ [])) in
    let last = length-append x [] in
    omega (arith, whole, parts, last)

-- one more name takes its bytes and a space
pub length-names_text-more : (xs : List (List ℕ)) (i : ℕ) (d : List ℕ) → i < length xs → length (names_text (take (i + 1) xs)) ≡ length (names_text (take i xs)) + (length (get_or xs i d) + 1)
length-names_text-more xs i d below = ap (λ l. length (names_text l)) (take_more xs i d below) ∙ length-names_text-push (take i xs) (get_or xs i d)

-- fewer names have no longer text
pub length-names_text-take : (i j : ℕ) (xs : List (List ℕ)) → i ≤ j → length (names_text (take i xs)) ≤ length (names_text (take j xs))
length-names_text-take zero j xs few = omega arith
length-names_text-take (suc i) zero xs few = absurd (omega (arith, few))
length-names_text-take (suc i) (suc j) [] few = omega arith
length-names_text-take (suc i) (suc j) (x ∷ xs) few =
    let rest = length-names_text-take i j xs (omega (arith, few)) in
    let one = length-append x (names_text (take i xs)) in
    let other = length-append x (names_text (take j xs)) in
    omega (arith, rest, one, other)

pub names_text-more : (xs : List (List ℕ)) (i : ℕ) (d : List ℕ) → i < length xs → names_text (take (i + 1) xs) ≡ names_text (take i xs) ++ 32 ∷ get_or xs i d
names_text-more xs i d below =
    ap names_text (take_more xs i d below) ∙ names_text-append (take i xs) (get_or xs i d ∷ [])
    ∙ ap (λ text. names_text (take i xs) ++ 32 ∷ text) (append-nil (get_or xs i d))

-- the first of the names have no longer text than all of them
pub length-names_text-part : (xs : List (List ℕ)) (i : ℕ) → i ≤ length xs → length (names_text (take i xs)) ≤ length (names_text xs)
length-names_text-part xs i few =
    let part = length-names_text-take i (length xs) xs few in
    let whole = ap (λ l. length (names_text l)) (take_all (length xs) xs (omega arith)) in
    omega (arith, part, whole)

-- The row of a word.
use Rattle.std.proofs.Common.{inl, inr, ◌≡◌, ℕ, zero, suc, ◌+◌, ◌<◌, ◌≤◌, List, [], ◌∷◌, length, get_or, map, true, false, Some, sym, ap, ◌∙◌, arith, rules}
use Rattle.std.specs.Borrow.{Bor}
use Rattle.std.specs.Str.{bytes_eq}
use Rattle.std.proofs.lemmas.Bool.{cases_lt, cases_eq}
use Rattle.std.proofs.lemmas.List.{get_or-map, get_or_default, length-map}
use Rattle.std.proofs.lemmas.Slice.Eq.{bytes_eq-Decides}
use Rattle.std.proofs.lemmas.List.Sums.{fails_before_first, passes_at_first}
use Rattle.hub_protocol.specs.declared.table.Kind.{Kind}
use Rattle.hub_protocol.specs.declared.table.Ending.{Ending}
use Rattle.hub_protocol.specs.declared.table.Verb.{Verb}
use Rattle.hub_protocol.specs.Table.{Row, IsRowOf, IsWord, no_row, place_in, row_in, row_shown, table, word_of}

-- the first row with the word is here if it isn't before
place_here : (rows : List Row) (word : List ℕ) (i : ℕ) (d : Row) → i < length rows → i ≤ place_in rows word → bytes_eq (get_or rows i d).word word ≡ true → place_in rows word ≡ i
place_here rows word i d below after hit = elim (cases_lt i (place_in rows word)) [
  | inl before ↦
      let miss : bytes_eq (get_or rows i d).word word ≡ false = fails_before_first (λ r. bytes_eq r.word word) rows i d before in
      absurd (cc)
  | inr here ↦ omega arith
]

-- it is behind a row with another word
place_behind : (rows : List Row) (word : List ℕ) (i : ℕ) (d : Row) → i < length rows → i ≤ place_in rows word → bytes_eq (get_or rows i d).word word ≡ false → i + 1 ≤ place_in rows word
place_behind rows word i d below after miss = elim (cases_eq i (place_in rows word)) [
  | inl here ↦
      let inside : place_in rows word < length rows = omega arith in
      let hit : bytes_eq (get_or rows (place_in rows word) d).word word ≡ true = passes_at_first (λ r. bytes_eq r.word word) rows d inside in
      let text : bytes_eq (get_or rows i d).word word ≡ true = ap (λ k. bytes_eq (get_or rows k d).word word) here ∙ hit in
      absurd (cc)
  | inr elsewhere ↦ omega arith
]

abbrev pub CodeRow : Type 0
CodeRow = Bor (List ℕ) × Verb × Bor (List Kind) × Ending

shown_at : (rows : List CodeRow) (i : ℕ) (d : CodeRow) → i < length rows → get_or (map row_shown rows) i (row_shown d) ≡ row_shown (get_or rows i d)
shown_at rows i d below = get_or-map row_shown rows i d (row_shown d) below

pub found : (rows : List CodeRow) (word : List ℕ) (i : ℕ) (d : CodeRow) → i < length rows → i ≤ place_in (map row_shown rows) word → bytes_eq (get_or rows i d).0.now word ≡ true
    → IsRowOf (map row_shown rows) word (Some (get_or rows i d))
found rows word i d below after hit =
    let shown = shown_at rows i d below in
    let long : length (map row_shown rows) ≡ length rows = length-map rows row_shown in
    let inside : i < length (map row_shown rows) = omega (arith, long, below) in
    let place : place_in (map row_shown rows) word ≡ i = place_here (map row_shown rows) word i (row_shown d) inside after (ap (λ r. bytes_eq r.word word) shown ∙ hit) in
    (omega (arith, inside, place), ap (λ k. get_or (map row_shown rows) k no_row) place ∙ get_or_default (map row_shown rows) i no_row (row_shown d) inside ∙ shown)

pub not_yet : (rows : List CodeRow) (word : List ℕ) (i : ℕ) (d : CodeRow) → i < length rows → i ≤ place_in (map row_shown rows) word → bytes_eq (get_or rows i d).0.now word ≡ false
    → i + 1 ≤ place_in (map row_shown rows) word
not_yet rows word i d below after miss =
    let shown = shown_at rows i d below in
    let long : length (map row_shown rows) ≡ length rows = length-map rows row_shown in
    place_behind (map row_shown rows) word i (row_shown d) (omega (arith, long, below)) after (ap (λ r. bytes_eq r.word word) shown ∙ miss)

-- ---- the table

-- a word's row has the word
pub word_at : (word : List ℕ) → IsWord word → (row_in table word).word ≡ word
word_at word is = (bytes_eq-Decides (row_in table word).word word).0 (passes_at_first (λ r. bytes_eq r.word word) table no_row is)

-- what holds of each row holds of a word's
abbrev pub EachRow : (Row → Type 0) → List Row → Type 0
EachRow P [] = Unit {0}
EachRow P (row ∷ rows) = P row × EachRow P rows

each_at : (P : Row → Type 0) (rows : List Row) (i : ℕ) (d : Row) → EachRow P rows → i < length rows → P (get_or rows i d)
each_at P [] i d each below = absurd (omega (arith, below))
each_at P (row ∷ rows) zero d each below = each.0
each_at P (row ∷ rows) (suc i) d each below = each_at P rows i d each.1 (omega (arith, below))

pub of_word : (P : Row → Type 0) → EachRow P table → (word : List ℕ) → IsWord word → P (row_in table word)
of_word P each word is = each_at P table (place_in table word) no_row each is

each_is_of_verb : EachRow (λ row. row.word ≡ word_of row.verb) table
each_is_of_verb = search rules

-- a word is that of its row's verb
pub word_of_row : (word : List ℕ) (row : Row) → IsWord word → row_in table word ≡ row → word_of row.verb ≡ word
word_of_row word row is e = ap (λ r. word_of r.verb) (sym e) ∙ sym (of_word (λ row. row.word ≡ word_of row.verb) each_is_of_verb word is) ∙ word_at word is

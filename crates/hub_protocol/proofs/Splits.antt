-- A text is cut at its first space.
use Rattle.std.proofs.Common.{◌≡◌, ◌≢◌, ℕ, ◌+◌, ◌-◌, ◌<◌, ◌≤◌, List, [], ◌∷◌, ◌++◌, length, get_or, take, drop, Bool, true, false, count_by, nat_lt, MatchBool, refl, sym, subst, ap, ◌∙◌, arith}
use Rattle.std.specs.Prelude.{All}
use Rattle.std.specs.List.{join_with_byte}
use Rattle.std.proofs.lemmas.Bool.{le-ltb, ne_eqb}
use Rattle.std.proofs.lemmas.List.{drop_more, take-append-drop, get_or-take, get_or_default, take_rest, length-take}
use Rattle.std.proofs.lemmas.List.Splits.{slice_split_none, slice_split_at, length-slice_split, join_with_byte-slice_split}
use Rattle.hub_protocol.specs.Spelling.{is_space, fields_of}

-- no byte of the text is a space
abbrev pub IsOneField : List ℕ → Type 0
IsOneField text = All (λ b. is_space b ≡ false) text

pub fields_of-one : (text : List ℕ) → IsOneField text → fields_of text ≡ text ∷ []
fields_of-one text plain = slice_split_none is_space text plain

pub fields_of-more : (field rest : List ℕ) → IsOneField field → fields_of (field ++ 32 ∷ rest) ≡ field ∷ fields_of rest
fields_of-more field rest plain = slice_split_at is_space field 32 rest plain refl

no_space_at : (text : List ℕ) (k : ℕ) (d : ℕ) → k < length text → get_or text k 0 ≢ 32 → is_space (get_or text k d) ≡ false
no_space_at text k d below other = ne_eqb (get_or text k d) 32 (λ e. other (get_or_default text k 0 d below ∙ e))

pub fields_of-none : (text : List ℕ) → ((k : ℕ) → k < length text → get_or text k 0 ≢ 32) → fields_of text ≡ text ∷ []
fields_of-none text none = fields_of-one text (λ k d below. no_space_at text k d below (none k below))

one_field_before : (text : List ℕ) (i : ℕ) → i < length text → ((k : ℕ) → k < i → get_or text k 0 ≢ 32) → IsOneField (take i text)
one_field_before text i below before k d short =
    let lower : k < i = omega (arith, length-take i text) in
    let inside : k < length text = omega arith in
    rw get_or-take (no_space_at text k d inside (before k lower))

whole_at : (text : List ℕ) (i : ℕ) → i < length text → get_or text i 0 ≡ 32 → text ≡ take i text ++ 32 ∷ drop (i + 1) text
whole_at text i below space =
    sym (take-append-drop i text) ∙ ap (λ l. take i text ++ l) (drop_more text i 0 below ∙ ap (λ b. b ∷ drop (i + 1) text) space)

-- if the first space is at i
pub fields_of-at : (text : List ℕ) (i : ℕ) → i < length text → ((k : ℕ) → k < i → get_or text k 0 ≢ 32) → get_or text i 0 ≡ 32
    → fields_of text ≡ take i text ∷ fields_of (take (length text - (i + 1)) (drop (i + 1) text))
fields_of-at text i below before space =
    ap fields_of (whole_at text i below space) ∙ fields_of-more (take i text) (drop (i + 1) text) (one_field_before text i below before)
    ∙ ap (λ l. take i text ∷ fields_of l) (sym (take_rest text (i + 1)))

pub text_of_one : (text field : List ℕ) → fields_of text ≡ field ∷ [] → text ≡ field
text_of_one text field e = sym (join_with_byte-slice_split 32 text) ∙ ap (join_with_byte 32) e

pub same_text : (a b : List ℕ) → fields_of a ≡ fields_of b → a ≡ b
same_text a b e = sym (join_with_byte-slice_split 32 a) ∙ ap (join_with_byte 32) e ∙ join_with_byte-slice_split 32 b

-- each text has a piece
pub some_fields : (text : List ℕ) → 0 < length (fields_of text)
some_fields text = omega (arith, length-slice_split is_space text)

pub no_fields : (text : List ℕ) → fields_of text ≢ []
no_fields text e = let none : length (fields_of text) ≡ 0 = ap length e in omega (arith, some_fields text, none)

-- ---- texts of at most 32 fields, that is, of fewer than 32 spaces

-- few fields are all that is asked of them, if each is
pub few_fields : (Q E : Type 0) (each : Bool) → (E → Q) → (Q → E) → MatchBool each E (E → ⊥) → MatchBool each Q (Q → ⊥)
few_fields Q E true to from is = to is
few_fields Q E false to from none = λ q. none (from q)

-- and more of them are not
pub many_fields : (Q : Type 0) (text : List ℕ) (n : ℕ) → (Q → length (fields_of text) ≤ 32) → n ≡ count_by is_space text → 32 ≤ n → MatchBool (nat_lt n 32) Q (Q → ⊥)
many_fields Q text n few counted many =
    subst (λ t. MatchBool t Q (Q → ⊥)) (sym (le-ltb n 32 many))
    (λ q. let some = few q in omega (arith, length-slice_split is_space text))

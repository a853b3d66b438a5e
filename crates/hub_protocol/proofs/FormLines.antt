-- A line of a form, as its list of pieces.
use Rattle.std.proofs.Common.{inl, inr, ◌≡◌, ℕ, ◌≤◌, List, [], ◌∷◌, ◌++◌, map, length, false, sym, ap, ◌∙◌, arith}
use Rattle.std.specs.Prelude.{All}
use Rattle.std.specs.List.{after_first, position_or_len, join_with_byte}
use Rattle.std.proofs.lemmas.Bool.{cases_lt}
use Rattle.std.proofs.lemmas.List.{take_all}
use Rattle.std.proofs.lemmas.List.Elements.{All-from_get_or, All-cons, All-append}
use Rattle.std.proofs.lemmas.List.Sums.{fails_before_first}
use Rattle.std.proofs.lemmas.List.Splits.{slice_split_first, join_with_byte-slice_split}
use Rattle.hub_protocol.specs.Spelling.{Form, IsForm, spelling, text_of_field, pieces_of_last, is_space, fields_of, fields_in}
use Rattle.hub_protocol.specs.Reading.{first_word, IsTextByte, IsText, HasForm}
use Rattle.hub_protocol.proofs.Splits.{IsOneField, fields_of-one, fields_of-more}
use Rattle.hub_protocol.proofs.Visible.{AllVisible, one_field, plain, visible_in}

-- the first word of a line is its first field
pub first_word-fields : (line field : List ℕ) (more : List (List ℕ)) → fields_of line ≡ field ∷ more → first_word line ≡ field
first_word-fields line field more e = elim (cases_lt (position_or_len is_space line) (length line)) [
  | inl inside ↦ let split : fields_of line ≡ first_word line ∷ fields_of (after_first is_space line) = slice_split_first is_space line 0 inside in cc
  | inr past ↦
      let whole : first_word line ≡ line = take_all (position_or_len is_space line) line past in
      let plain : IsOneField line = All-from_get_or (λ b. is_space b ≡ false) line 0 (λ k below. fails_before_first is_space line k 0 (omega arith)) in
      let one : fields_of line ≡ line ∷ [] = fields_of-one line plain in
      cc
]

-- ---- forms

-- pieces are read back from their line
pub fields_of-join : (field : List ℕ) (fields : List (List ℕ)) → AllVisible (field ∷ fields) → fields_of (join_with_byte 32 (field ∷ fields)) ≡ field ∷ fields
fields_of-join field [] visible = fields_of-one field (one_field field visible.0)
fields_of-join field (next ∷ fields) visible =
    fields_of-more field (join_with_byte 32 (next ∷ fields)) (one_field field visible.0) ∙ ap (λ fs. field ∷ fs) (fields_of-join next fields visible.1)

plain_join : (field : List ℕ) (fields : List (List ℕ)) → AllVisible (field ∷ fields) → All IsTextByte (join_with_byte 32 (field ∷ fields))
plain_join field [] visible = plain field visible.0
plain_join field (next ∷ fields) visible =
    All-append IsTextByte field (32 ∷ join_with_byte 32 (next ∷ fields)) (plain field visible.0)
    (All-cons IsTextByte 32 (join_with_byte 32 (next ∷ fields)) (omega arith, omega arith) (plain_join next fields visible.1))

pub text_of_form : (form : Form) → IsForm form → length (spelling form) ≤ 512 → IsText (spelling form)
text_of_form form h short = record { short = short; plain = plain_join form.word (map text_of_field form.fields ++ pieces_of_last form.last) (visible_in form h) }

-- a line has a form exactly if its fields are the form's
pub fields_of-has_form : (line : List ℕ) (form : Form) → HasForm line form → fields_of line ≡ fields_in form
fields_of-has_form line form has = ap fields_of has.spelled ∙ fields_of-join form.word (map text_of_field form.fields ++ pieces_of_last form.last) (visible_in form has.formed)

pub has_form-fields_of : (line : List ℕ) (form : Form) → IsForm form → fields_of line ≡ fields_in form → HasForm line form
has_form-fields_of line form h e = record { formed = h; spelled = sym (join_with_byte-slice_split 32 line) ∙ ap (join_with_byte 32) e }

-- a line begins with the word of its form
pub first_word-form : (line : List ℕ) (form : Form) → HasForm line form → first_word line ≡ form.word
first_word-form line form has = first_word-fields line form.word (map text_of_field form.fields ++ pieces_of_last form.last) (fields_of-has_form line form has)

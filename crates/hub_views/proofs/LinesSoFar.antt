-- The lines of letters, one after another.
use Rattle.std.proofs.Common.{◌≡◌, ℕ, ◌+◌, ◌<◌, ◌≤◌, List, [], ◌++◌, length, drop, get_or, Option, sym, ap, ◌∙◌, append-nil, append_assoc, drop-cons, drop_of_length-le, add-one}
use Rattle.hub_views.specs.EventLines.{letter_line, lines_of, number_after}
use Rattle.hub_views.specs.declared.form.Form.{Form}

-- none is written
pub no_lines : (form : Form) (stamp name : List ℕ) (first : Option ℕ) (letters lines : List ℕ) → lines ≡ [] → lines ++ lines_of form stamp name first letters ≡ lines_of form stamp name first letters
no_lines form stamp name first letters lines none = ap (λ l. l ++ lines_of form stamp name first letters) none

-- one more is written
pub next_line : (form : Form) (stamp name : List ℕ) (next then : Option ℕ) (letters : List ℕ) (at : ℕ) (lines grown whole : List ℕ)
    → at < length letters → lines ++ lines_of form stamp name next (drop at letters) ≡ whole
    → grown ≡ lines ++ letter_line form stamp name next (get_or letters at 0) → then ≡ number_after next 1
    → grown ++ lines_of form stamp name then (drop (at + 1) letters) ≡ whole
next_line form stamp name next then letters at lines grown whole within so_far more number =
    ap (λ l. l ++ lines_of form stamp name then (drop (at + 1) letters)) more
    ∙ ap (λ n. (lines ++ letter_line form stamp name next (get_or letters at 0)) ++ lines_of form stamp name n (drop (at + 1) letters)) number
    ∙ append_assoc lines (letter_line form stamp name next (get_or letters at 0)) (lines_of form stamp name (number_after next 1) (drop (at + 1) letters))
    ∙ ap (λ n. lines ++ (letter_line form stamp name next (get_or letters at 0) ++ lines_of form stamp name (number_after next 1) (drop n letters))) (add-one at)
    ∙ ap (λ l. lines ++ lines_of form stamp name next l) (sym (drop-cons letters at 0 within))
    ∙ so_far

-- all are written
pub all_lines : (form : Form) (stamp name : List ℕ) (next : Option ℕ) (letters : List ℕ) (at : ℕ) (lines whole : List ℕ)
    → length letters ≤ at → lines ++ lines_of form stamp name next (drop at letters) ≡ whole → lines ≡ whole
all_lines form stamp name next letters at lines whole end so_far =
    sym (append-nil lines) ∙ ap (λ l. lines ++ lines_of form stamp name next l) (sym (drop_of_length-le letters end)) ∙ so_far

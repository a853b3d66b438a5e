-- The text of a request, piece by piece.
use Rattle.std.proofs.Common.{◌≡◌, ℕ, ◌+◌, ◌<◌, List, [], ◌∷◌, ◌++◌, length, get_or, map, take, sym, ap, ◌∙◌, append-nil, arith}
use Rattle.std.specs.List.{join_with_byte}
use Rattle.std.proofs.lemmas.List.{get_or-map, length-map}
use Rattle.std.proofs.lemmas.List.Splits.{join_with_byte-slice_split}
use Rattle.hub_requests.specs.Names.{names_text}
use Rattle.hub_requests.proofs.NamesText.{names_text-append, names_text-more}
use Rattle.hub_protocol.specs.declared.telling.Told as tolds
use Rattle.hub_protocol.specs.Spelling.{Field, Last, fields_of, pieces_of_last, says, spelling, text_of_field}
use Rattle.hub_protocol.specs.Writing.{field_told}
use Rattle.hub_protocol.proofs.Splits.{some_fields}

-- the pieces of a line, each but the first behind a space
pub join-pieces : (word : List ℕ) (pieces : List (List ℕ)) → join_with_byte 32 (word ∷ pieces) ≡ word ++ names_text pieces
join-pieces word [] = sym (append-nil word)
join-pieces word (piece ∷ pieces) = ap (λ l. word ++ 32 ∷ l) (join-pieces piece pieces)

pieces_text : (pieces : List (List ℕ)) → 0 < length pieces → names_text pieces ≡ 32 ∷ join_with_byte 32 pieces
pieces_text [] some = absurd (omega (arith, some))
pieces_text (piece ∷ pieces) some = ap (λ l. 32 ∷ l) (sym (join-pieces piece pieces))

-- the pieces of a text are the text, behind a space
pub text_of_pieces : (text : List ℕ) → names_text (fields_of text) ≡ 32 ∷ text
text_of_pieces text = pieces_text (fields_of text) (some_fields text) ∙ ap (λ l. 32 ∷ l) (join_with_byte-slice_split 32 text)

pub spelling-pieces : (word : List ℕ) (fields : List Field) (last : Last) → word ++ (names_text (map text_of_field fields) ++ names_text (pieces_of_last last)) ≡ spelling (says word fields last)
spelling-pieces word fields last =
    ap (λ l. word ++ l) (sym (names_text-append (map text_of_field fields) (pieces_of_last last))) ∙ sym (join-pieces word (map text_of_field fields ++ pieces_of_last last))

abbrev pub texts_told : List tolds.Told → List (List ℕ)
texts_told fields = map text_of_field (map field_told fields)

pub length-texts_told : (fields : List tolds.Told) → length (texts_told fields) ≡ length fields
length-texts_told fields = length-map (map field_told fields) text_of_field ∙ length-map fields field_told

-- one more field's text, with a space before it
pub text_more : (fields : List tolds.Told) (i : ℕ) (field : tolds.Told) → i < length fields → field ≡ get_or fields i field
    → names_text (take (i + 1) (texts_told fields)) ≡ names_text (take i (texts_told fields)) ++ 32 ∷ text_of_field (field_told field)
text_more fields i field below at =
    let long : length (map field_told fields) ≡ length fields = length-map fields field_told in
    let inside : i < length (map field_told fields) = omega (arith, long, below) in
    let inside' : i < length (texts_told fields) = omega (arith, length-texts_told fields, below) in
    let shown : get_or (texts_told fields) i (text_of_field (field_told field)) ≡ text_of_field (field_told field) =
    get_or-map text_of_field (map field_told fields) i (field_told field) (text_of_field (field_told field)) inside
    ∙ ap text_of_field (get_or-map field_told fields i field (field_told field) below ∙ ap field_told (sym at)) in
    names_text-more (texts_told fields) i (text_of_field (field_told field)) inside' ∙ ap (λ (t : List ℕ). names_text (take i (texts_told fields)) ++ 32 ∷ t) shown

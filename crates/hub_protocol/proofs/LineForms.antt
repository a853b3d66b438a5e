-- What the parts of a line show about its form.
use Rattle.std.proofs.Common.{◌≡◌, ◌≢◌, ℕ, ◌≤◌, List, ◌∷◌, ◌++◌, length, map, Result, Ok, Err, IfOk, IfErr, sym, ap, ◌∙◌, subst, rules}
use Rattle.std.specs.List.{AllZip}
use Rattle.hub_requests.specs.Ranges.{IsInRange}
use Rattle.hub_requests.specs.declared.request.Request.{Request}
use Rattle.hub_requests.specs.declared.reply.Refusal.{Refusal}
use Rattle.hub_requests.specs.declared.reply.Refusal.TheVariants.{Memory}
use Rattle.hub_protocol.specs.declared.table.Kind.{Kind}
use Rattle.hub_protocol.specs.declared.table.Ending.{Ending}
use Rattle.hub_protocol.specs.Table.{IsWord, kinds_of, ending_of, table}
use Rattle.hub_protocol.specs.Spelling.{Form, Field, Last, IsOf, EndsAs, fields_in, fields_of, form_of, says, text_of_field, pieces_of_last}
use Rattle.hub_protocol.specs.declared.line.Field as code
use Rattle.hub_protocol.specs.declared.line.Rest as rests
use Rattle.hub_protocol.specs.Lines.{AreWithinKinds, AreRead, IsWithinKind, fields_shown, pieces_of}
use Rattle.hub_protocol.specs.Reading.{HasForm, IsReading, IsText}
use Rattle.hub_protocol.proofs.FormLines.{fields_of-has_form, has_form-fields_of}
use Rattle.hub_protocol.proofs.FormRequests.{in_range, some_request}
use Rattle.hub_protocol.proofs.OneReading.{same_fields}
use Rattle.hub_protocol.proofs.Rows.{EachRow, of_word}

each_is_short : EachRow (λ row. length row.kinds ≤ 4) table
each_is_short = search rules

-- no row has more than four fields
pub few_kinds : (word : List ℕ) (kinds : List Kind) → IsWord word → kinds_of word ≡ kinds → length kinds ≤ 4
few_kinds word kinds is e = subst (λ ks. length ks ≤ 4) e (of_word (λ row. length row.kinds ≤ 4) each_is_short word is)

-- its fields aren't of the row's kinds
pub no_form_fields : (text word : List ℕ) (kinds : List Kind) (pieces : List (List ℕ)) → kinds_of word ≡ kinds → fields_of text ≡ word ∷ pieces
    → ((fields : List Field) (more : List (List ℕ)) → AllZip IsOf kinds fields → pieces ≢ map text_of_field fields ++ more)
    → (form : Form) → HasForm text form → ⊥
no_form_fields text word kinds pieces row e none form has =
    let is : fields_of text ≡ fields_in form = fields_of-has_form text form has in
    let words : form.word ≡ word = cc in
    let behind : pieces ≡ map text_of_field form.fields ++ pieces_of_last form.last = cc in
    let zip : AllZip IsOf kinds form.fields = subst (λ ks. AllZip IsOf ks form.fields) (ap kinds_of words ∙ row) has.formed.fields in
    none form.fields (pieces_of_last form.last) zip behind

-- it doesn't end as the row wants
pub no_form_last : (text word : List ℕ) (kinds : List Kind) (end : Ending) (pieces left : List (List ℕ)) (read : List Field) → kinds_of word ≡ kinds → ending_of word ≡ end
    → fields_of text ≡ word ∷ pieces → AllZip IsOf kinds read → pieces ≡ map text_of_field read ++ left
    → ((last : Last) → EndsAs end last → left ≢ pieces_of_last last) → (form : Form) → HasForm text form → ⊥
no_form_last text word kinds end pieces left read row row' e zip so_far none form has =
    let is : fields_of text ≡ fields_in form = fields_of-has_form text form has in
    let words : form.word ≡ word = cc in
    let behind : pieces ≡ map text_of_field form.fields ++ pieces_of_last form.last = cc in
    let zip' : AllZip IsOf kinds form.fields = subst (λ ks. AllZip IsOf ks form.fields) (ap kinds_of words ∙ row) has.formed.fields in
    let ends : EndsAs end form.last = subst (λ k. EndsAs k form.last) (ap ending_of words ∙ row') has.formed.last in
    none form.last ends (same_fields kinds read form.fields left (pieces_of_last form.last) zip zip' (sym so_far ∙ behind)).1

pub has_form : (text word : List ℕ) (kinds : List Kind) (end : Ending) (pieces left : List (List ℕ)) (read : List Field) (last : Last) → IsWord word → kinds_of word ≡ kinds → ending_of word ≡ end
    → fields_of text ≡ word ∷ pieces → AllZip IsOf kinds read → pieces ≡ map text_of_field read ++ left → EndsAs end last → left ≡ pieces_of_last last
    → HasForm text (says word read last)
has_form text word kinds end pieces left read last is row row' e zip so_far ends behind =
    has_form-fields_of text (says word read last) (record {
      word = is;
      fields = subst (λ ks. AllZip IsOf ks read) (sym row) zip;
      last = subst (λ k. EndsAs k last) (sym row') ends;
    }) (e ∙ ap (λ ps. word ∷ ps) (so_far ∙ ap (λ ps. map text_of_field read ++ ps) behind))

-- the form of this word, of those of these fields that are of the word's kinds, and of this end
abbrev pub shown : List ℕ → List code.Field → Last → Form
shown word list last = says word (fields_shown (kinds_of word) list) last

pub line_form : (text word said : List ℕ) (list : List code.Field) (last : Last) (kinds : List Kind) (end : Ending) (rest left : rests.Rest) → said ≡ word → IsWord word → kinds_of word ≡ kinds
    → ending_of word ≡ end → fields_of text ≡ word ∷ pieces_of rest → AreRead kinds rest list left → EndsAs end last → pieces_of left ≡ pieces_of_last last
    → HasForm text (shown said list last)
line_form text word said list last kinds end rest left same is row row' e read ends behind =
    subst (λ w. HasForm text (shown w list last)) (sym same) (subst (λ ks. HasForm text (says word (fields_shown ks list) last)) (sym row)
    (has_form text word kinds end (pieces_of rest) (pieces_of left) (fields_shown kinds list) last is row row' e read.each read.pieces ends behind))

pub line_within : (word said : List ℕ) (list : List code.Field) (last : Last) (kinds : List Kind) → said ≡ word → kinds_of word ≡ kinds → AllZip IsWithinKind kinds (fields_shown kinds list) → AreWithinKinds (shown said list last)
line_within word said list last kinds same row within = subst (λ ks. AllZip IsWithinKind ks (fields_shown ks list)) (sym (ap kinds_of same ∙ row)) within

pub line_beyond : (word said : List ℕ) (list : List code.Field) (last : Last) (kinds : List Kind) → said ≡ word → kinds_of word ≡ kinds → (AllZip IsWithinKind kinds (fields_shown kinds list) → ⊥) → AreWithinKinds (shown said list last) → ⊥
line_beyond word said list last kinds same row out within = out (subst (λ ks. AllZip IsWithinKind ks (fields_shown ks list)) (ap kinds_of same ∙ row) within)

-- a line is read as a request of its form, or memory runs out
pub reading_of : (text : List ℕ) (form : Form) (result : Result Request Refusal) → IsText text → HasForm text form → AreWithinKinds form
    → IfOk result (λ request. form_of request ≡ form) → IfErr result (λ refusal. refusal ≡ Memory) → IsReading text result
reading_of text form (Ok request) is has within made lacks = record {
  text = is;
  form = subst (HasForm text) (sym made) has;
  within = in_range request form made has.formed within;
}
reading_of text form (Err refusal) is has within made lacks =
    let some = some_request form has.formed within in
    subst (λ r. IsReading text (Err r)) (sym lacks) (some.0, record { text = is; form = subst (HasForm text) (sym some.1) has; within = some.2 })

-- what is read is in range
pub reading_in_range : (text : List ℕ) (result : Result Request Refusal) → IsReading text result → IfOk result IsInRange
reading_in_range text (Ok request) reading = reading.within
reading_in_range text (Err refusal) reading = tt

-- A line spells one form, and is read in one way.
use Rattle.std.proofs.Common.{◌≡◌, ◌≢◌, ℕ, ◌<◌, ◌≤◌, List, [], ◌∷◌, ◌++◌, length, map, true, false, Result, Ok, Err, refl, sym, ap, ◌∙◌, subst, arith}
use Rattle.std.specs.Prelude.{Any}
use Rattle.std.specs.List.{AllZip, join_with_byte}
use Rattle.std.proofs.lemmas.List.Splits.{join_with_byte-slice_split}
use Rattle.hub_requests.specs.declared.request.Request.{Request}
use Rattle.hub_requests.specs.declared.reply.Refusal.{Refusal}
use Rattle.hub_requests.specs.declared.reply.Refusal.TheVariants.{Long, Text, Word, Range, Memory}
use Rattle.hub_requests.specs.declared.reply.Refusal.TheVariants as no
use Rattle.hub_protocol.specs.declared.table.Kind.{Kind}
use Rattle.hub_protocol.specs.declared.table.Kind.TheVariants as kind
use Rattle.hub_protocol.specs.declared.table.Ending.{Ending}
use Rattle.hub_protocol.specs.declared.table.Ending.TheVariants as ending
use Rattle.hub_protocol.specs.Table.{IsWord, kinds_of, ending_of}
use Rattle.hub_protocol.specs.Spelling.{Form, Field, Name, Number, Letters, Mode, Span, Want, State, Will, Last, Nothing, Names, Pattern, Evict, IsOf, EndsAs, IsWithin, form_of, says, text_of_field, pieces_of_last, fields_in}
use Rattle.hub_protocol.specs.Reading.{first_word, IsTextByte, IsText, HasForm, Spells, IsReading}
use Rattle.hub_protocol.proofs.Numerals.{same_number}
use Rattle.hub_protocol.proofs.SameWords.{same_mode, same_span, same_state, same_want, same_will}
use Rattle.hub_protocol.proofs.FormLines.{first_word-form, fields_of-has_form}
use Rattle.hub_protocol.proofs.FormRequests.{same_request}

-- ---- forms and requests

-- fields of one kind with the same text
same_field : (k : Kind) (a b : Field) → IsOf k a → IsOf k b → text_of_field a ≡ text_of_field b → a ≡ b
same_field kind.Name (Name a) (Name b) h i e = ap Name e
same_field kind.Name (Name a) b h i e = absurd i
same_field kind.Name a b h i e = absurd h
same_field (kind.Number least most) (Number a) (Number b) h i e = ap Number (same_number a b h i e)
same_field (kind.Number least most) (Number a) b h i e = absurd i
same_field (kind.Number least most) a b h i e = absurd h
same_field kind.Flag (Number a) (Number b) h i e = ap Number (same_number a b h i e)
same_field kind.Flag (Number a) b h i e = absurd i
same_field kind.Flag a b h i e = absurd h
same_field kind.Letters (Letters a) (Letters b) h i e = ap Letters e
same_field kind.Letters (Letters a) b h i e = absurd i
same_field kind.Letters a b h i e = absurd h
same_field kind.Mode (Mode a) (Mode b) h i e = ap Mode (same_mode a b e)
same_field kind.Mode (Mode a) b h i e = absurd i
same_field kind.Mode a b h i e = absurd h
same_field kind.Span (Span a) (Span b) h i e = ap Span (same_span a b e)
same_field kind.Span (Span a) b h i e = absurd i
same_field kind.Span a b h i e = absurd h
same_field kind.Want (Want a) (Want b) h i e = ap Want (same_want a b e)
same_field kind.Want (Want a) b h i e = absurd i
same_field kind.Want a b h i e = absurd h
same_field kind.State (State a) (State b) h i e = ap State (same_state a b e)
same_field kind.State (State a) b h i e = absurd i
same_field kind.State a b h i e = absurd h
same_field kind.Will (Will a) (Will b) h i e = ap Will (same_will a b e)
same_field kind.Will (Will a) b h i e = absurd i
same_field kind.Will a b h i e = absurd h

pub same_fields : (kinds : List Kind) (as' bs : List Field) (xs ys : List (List ℕ)) → AllZip IsOf kinds as' → AllZip IsOf kinds bs → map text_of_field as' ++ xs ≡ map text_of_field bs ++ ys → (as' ≡ bs) × (xs ≡ ys)
same_fields [] [] [] xs ys h i e = (refl, e)
same_fields [] (a ∷ as') bs xs ys h i e = absurd h
same_fields [] [] (b ∷ bs) xs ys h i e = absurd i
same_fields (k ∷ ks) [] bs xs ys h i e = absurd h
same_fields (k ∷ ks) (a ∷ as') [] xs ys h i e = absurd i
same_fields (k ∷ ks) (a ∷ as') (b ∷ bs) xs ys h i e =
    let texts : text_of_field a ≡ text_of_field b = cc in
    let behind : map text_of_field as' ++ xs ≡ map text_of_field bs ++ ys = cc in
    let first = same_field k a b h.0 i.0 texts in
    let (rest, left) = same_fields ks as' bs xs ys h.1 i.1 behind in
    (cc, left)

-- the end that pieces say, if a line that ends so has them
abbrev last_said : Ending → List (List ℕ) → Last
last_said ending.Nothing pieces = Nothing
last_said ending.Names pieces = Names pieces
last_said ending.Pattern pieces = Pattern (join_with_byte 32 pieces)
last_said ending.Evict [] = Evict false
last_said ending.Evict (word ∷ rest) = Evict true

said_back : (end : Ending) (last : Last) → EndsAs end last → last_said end (pieces_of_last last) ≡ last
said_back ending.Nothing Nothing h = refl
said_back ending.Names (Names names) h = refl
said_back ending.Pattern (Pattern pattern) h = ap Pattern (join_with_byte-slice_split 32 pattern)
said_back ending.Evict (Evict false) h = refl
said_back ending.Evict (Evict true) h = refl
said_back end last h = absurd h

same_last : (end : Ending) (a b : Last) → EndsAs end a → EndsAs end b → pieces_of_last a ≡ pieces_of_last b → a ≡ b
same_last end a b h i e = sym (said_back end a h) ∙ ap (last_said end) e ∙ said_back end b i

pub one_form : (line : List ℕ) (a b : Form) → HasForm line a → HasForm line b → a ≡ b
one_form line a b h k =
    let same : fields_in a ≡ fields_in b = sym (fields_of-has_form line a h) ∙ fields_of-has_form line b k in
    let words : a.word ≡ b.word = cc in
    let behind : map text_of_field a.fields ++ pieces_of_last a.last ≡ map text_of_field b.fields ++ pieces_of_last b.last = cc in
    let (fields, pieces) = same_fields (kinds_of a.word) a.fields b.fields _ _ h.formed.fields (subst (λ w. AllZip IsOf (kinds_of w) b.fields) (sym words) k.formed.fields) behind in
    let last = same_last (ending_of a.word) a.last b.last h.formed.last (subst (λ w. EndsAs (ending_of w) b.last) (sym words) k.formed.last) pieces in
    ap (λ w. says w a.fields a.last) words ∙ ap (λ fs. says b.word fs a.last) fields ∙ ap (λ l. says b.word b.fields l) last

pub one_request : (line : List ℕ) (a b : Request) → Spells line a → Spells line b → a ≡ b
one_request line a b h k = same_request a b (one_form line (form_of a) (form_of b) h.form k.form)

-- ---- readings

word_of_line : (line : List ℕ) (form : Form) → HasForm line form → IsWord (first_word line)
word_of_line line form has = subst IsWord (sym (first_word-form line form has)) has.formed.word

-- a line that is too long is read as nothing else
pub only_long : (line : List ℕ) (a : Result Request Refusal) → 512 < length line → IsReading line a → a ≢ Err Memory → a ≡ Err Long
only_long line (Ok request) long h memory = let short = h.text.short in absurd (omega arith)
only_long line (Err Long) long h memory = refl
only_long line (Err Text) long h memory = absurd (omega (arith, h.0))
only_long line (Err Word) long h memory = let short = h.0.short in absurd (omega arith)
only_long line (Err no.Form) long h memory = let short = h.0.short in absurd (omega arith)
only_long line (Err Range) long h memory = let short = h.0.short in absurd (omega arith)
only_long line (Err Memory) long h memory = absurd (memory refl)
only_long line (Err refusal) long h memory = absurd h

no_other_byte : (line : List ℕ) → IsText line → Any (λ b. IsTextByte b → ⊥) line → ⊥
no_other_byte line text (k, b, below, at, other) = other (subst IsTextByte at (text.plain k b below))

only_text : (line : List ℕ) (a : Result Request Refusal) → length line ≤ 512 → Any (λ b. IsTextByte b → ⊥) line → IsReading line a → a ≢ Err Memory → a ≡ Err Text
only_text line (Ok request) short other h memory = absurd (no_other_byte line h.text other)
only_text line (Err Long) short other h memory = absurd (omega (arith, h))
only_text line (Err Text) short other h memory = refl
only_text line (Err Word) short other h memory = absurd (no_other_byte line h.0 other)
only_text line (Err no.Form) short other h memory = absurd (no_other_byte line h.0 other)
only_text line (Err Range) short other h memory = absurd (no_other_byte line h.0 other)
only_text line (Err Memory) short other h memory = absurd (memory refl)
only_text line (Err refusal) short other h memory = absurd h

-- For a text of at most 512 bytes of a line:
only_word : (line : List ℕ) (a : Result Request Refusal) → IsText line → (IsWord (first_word line) → ⊥) → IsReading line a → a ≢ Err Memory → a ≡ Err Word
only_word line (Ok request) text none h memory = absurd (none (word_of_line line (form_of request) h.form))
only_word line (Err Long) text none h memory = let short = text.short in absurd (omega (arith, h))
only_word line (Err Text) text none h memory = absurd (no_other_byte line text h.1)
only_word line (Err Word) text none h memory = refl
only_word line (Err no.Form) text none h memory = absurd (none h.1)
only_word line (Err Range) text none h memory = absurd (none (word_of_line line h.1 h.2))
only_word line (Err Memory) text none h memory = absurd (memory refl)
only_word line (Err refusal) text none h memory = absurd h

only_form : (line : List ℕ) (a : Result Request Refusal) → IsText line → IsWord (first_word line) → ((form : Form) → HasForm line form → ⊥) → IsReading line a → a ≢ Err Memory → a ≡ Err no.Form
only_form line (Ok request) text is none h memory = absurd (none (form_of request) h.form)
only_form line (Err Long) text is none h memory = let short = text.short in absurd (omega (arith, h))
only_form line (Err Text) text is none h memory = absurd (no_other_byte line text h.1)
only_form line (Err Word) text is none h memory = absurd (h.1 is)
only_form line (Err no.Form) text is none h memory = refl
only_form line (Err Range) text is none h memory = absurd (none h.1 h.2)
only_form line (Err Memory) text is none h memory = absurd (memory refl)
only_form line (Err refusal) text is none h memory = absurd h

only_range : (line : List ℕ) (a : Result Request Refusal) → IsText line → (form : Form) → HasForm line form → (IsWithin form → ⊥) → IsReading line a → a ≢ Err Memory → a ≡ Err Range
only_range line (Ok request) text form has beyond h memory = absurd (beyond (request, one_form line (form_of request) form h.form has, h.within))
only_range line (Err Long) text form has beyond h memory = let short = text.short in absurd (omega (arith, h))
only_range line (Err Text) text form has beyond h memory = absurd (no_other_byte line text h.1)
only_range line (Err Word) text form has beyond h memory = absurd (h.1 (word_of_line line form has))
only_range line (Err no.Form) text form has beyond h memory = absurd (h.2 form has)
only_range line (Err Range) text form has beyond h memory = refl
only_range line (Err Memory) text form has beyond h memory = absurd (memory refl)
only_range line (Err refusal) text form has beyond h memory = absurd h

only_request : (line : List ℕ) (a : Result Request Refusal) (request : Request) → Spells line request → IsReading line a → a ≢ Err Memory → a ≡ Ok request
only_request line (Ok other) request spells h memory = ap Ok (one_request line other request h spells)
only_request line (Err Long) request spells h memory = let short = spells.text.short in absurd (omega (arith, h))
only_request line (Err Text) request spells h memory = absurd (no_other_byte line spells.text h.1)
only_request line (Err Word) request spells h memory = absurd (h.1 (word_of_line line (form_of request) spells.form))
only_request line (Err no.Form) request spells h memory = absurd (h.2 (form_of request) spells.form)
only_request line (Err Range) request spells h memory = absurd (h.3 (request, one_form line (form_of request) h.1 spells.form h.2, spells.within))
only_request line (Err Memory) request spells h memory = absurd (memory refl)
only_request line (Err refusal) request spells h memory = absurd h

pub one_reading : (line : List ℕ) (a b : Result Request Refusal) → a ≢ Err Memory → b ≢ Err Memory → IsReading line a → IsReading line b → a ≡ b
one_reading line (Ok request) b m n h k = sym (only_request line b request h k n)
one_reading line (Err Long) b m n h k = sym (only_long line b h k n)
one_reading line (Err Text) b m n h k = sym (only_text line b h.0 h.1 k n)
one_reading line (Err Word) b m n h k = sym (only_word line b h.0 h.1 k n)
one_reading line (Err no.Form) b m n h k = sym (only_form line b h.0 h.1 h.2 k n)
one_reading line (Err Range) b m n h k = sym (only_range line b h.0 h.1 h.2 h.3 k n)
one_reading line (Err Memory) b m n h k = absurd (m refl)
one_reading line (Err refusal) b m n h k = absurd h

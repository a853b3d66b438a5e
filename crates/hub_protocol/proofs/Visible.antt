-- Names, numerals, letters, words, and the pieces between the spaces of a text, are of visible bytes: bytes that may be
-- in a line and aren't spaces.
use Rattle.std.proofs.Common.{◌≡◌, ◌≢◌, ℕ, ◌<◌, ◌≤◌, ◌^◌, List, [], ◌∷◌, ◌++◌, map, Bool, true, false, cond, not, nat_lt, refl, subst, arith, rules}
use Rattle.std.specs.Prelude.{All, codes}
use Rattle.std.specs.Fmt.{decimal}
use Rattle.std.specs.List.{list_all, onto_first, AllZip}
use Rattle.std.specs.Char.{is_ascii_digit}
use Rattle.std.specs.Str.{all_ascii_digits}
use Rattle.std.proofs.lemmas.Fmt.{digits_decimal}
use Rattle.std.proofs.lemmas.Bool.{and_parts, or_cases, eqb-true, eqb-false, ne_eqb, not-true, ltb-false}
use Rattle.std.proofs.lemmas.List.Elements.{All-nil, All-cons, All-head, All-tail, All-weaker}
use Rattle.hub_letters.specs.declared.state.State as states
use Rattle.hub_letters.specs.declared.state.State.TheVariants as state
use Rattle.hub_letters.specs.declared.want.Want as wants
use Rattle.hub_requests.specs.declared.will.Will as wills
use Rattle.hub_requests.specs.declared.will.Will.TheVariants as will
use Rattle.hub_letters.specs.declared.want.Want.TheVariants.{Up}
use Rattle.hub_letters.specs.declared.mode.Mode as modes
use Rattle.hub_letters.specs.declared.mode.Mode.TheVariants.{Once}
use Rattle.hub_letters.specs.declared.span.Span as spans
use Rattle.hub_letters.specs.declared.span.Span.TheVariants as span
use Rattle.hub_requests.specs.Names.{within, is_name_byte}
use Rattle.hub_protocol.specs.declared.table.Kind.{Kind}
use Rattle.hub_protocol.specs.declared.table.Kind.TheVariants as kind
use Rattle.hub_protocol.specs.declared.table.Ending.{Ending}
use Rattle.hub_protocol.specs.declared.table.Ending.TheVariants as ending
use Rattle.hub_protocol.specs.Table.{IsWord, table}
use Rattle.hub_protocol.specs.Spelling.{Form, Field, Name, Number, Letters, Mode, Span, Want, State, Will, Last, Nothing, Names, Pattern, Evict, IsForm, IsOf, EndsAs, IsName, IsNumeral, text_of_mode, text_of_span, text_of_state, text_of_want, text_of_will, text_of_field, pieces_of_last, is_space, fields_of, fields_of_evict, fields_in}
use Rattle.hub_protocol.specs.Reading.{IsTextByte}
use Rattle.hub_protocol.proofs.Numerals.{own, fits}
use Rattle.hub_protocol.proofs.Splits.{IsOneField}
use Rattle.hub_protocol.proofs.Rows.{EachRow, of_word, word_at}

abbrev pub IsVisible : ℕ → Type 0
IsVisible b = (33 ≤ b) × (b ≤ 126)

abbrev pub AreVisible : List ℕ → Type 0
AreVisible text = All IsVisible text

pub one_field : (text : List ℕ) → AreVisible text → IsOneField text
one_field text visible = All-weaker IsVisible (λ b. is_space b ≡ false) (λ b range. ne_eqb b 32 (λ e. omega arith)) text visible

pub plain : (text : List ℕ) → AreVisible text → All IsTextByte text
plain text visible = All-weaker IsVisible IsTextByte (λ b range. (omega (arith, range.0), range.1)) text visible

visible_by : (p : ℕ → Bool) → ((b : ℕ) → p b ≡ true → IsVisible b) → (xs : List ℕ) → list_all p xs ≡ true → AreVisible xs
visible_by p is [] e = All-nil IsVisible
visible_by p is (b ∷ bs) e =
    let (first, rest) = and_parts (p b) (list_all p bs) e in
    All-cons IsVisible b bs (is b first) (visible_by p is bs rest)

within_range : (low high b : ℕ) → within low high b ≡ true → (low ≤ b) × (b ≤ high)
within_range low high b e =
    let (above, below) = and_parts (not (nat_lt b low)) (not (nat_lt high b)) e in
    (ltb-false b low (not-true (nat_lt b low) above), ltb-false high b (not-true (nat_lt high b) below))

visible_name_byte : (b : ℕ) → is_name_byte b ≡ true → IsVisible b
visible_name_byte b e = grind (arith, or_cases, within_range, eqb-true)

visible_digit : (b : ℕ) → is_ascii_digit b ≡ true → IsVisible b
visible_digit b e = grind arith

pub visible_name : (name : List ℕ) → IsName name → AreVisible name
visible_name name h = visible_by is_name_byte visible_name_byte name (and_parts _ (list_all is_name_byte name) h).1

pub visible_decimal : (n : ℕ) → n < 2 ^ 64 → AreVisible (decimal n)
visible_decimal n h = visible_by is_ascii_digit visible_digit (decimal n) (digits_decimal own n h)

pub digits_all : (n : ℕ) → n < 2 ^ 64 → all_ascii_digits (decimal n) ≡ true
digits_all n h = digits_decimal own n h

pub visible_dash : AreVisible (codes "-")
visible_dash = visible_name (codes "-") refl

pub visible_numeral : (n : ℕ) → IsNumeral n → AreVisible (decimal n)
visible_numeral n h = visible_decimal n (fits n h)

each_is_named : EachRow (λ row. IsName row.word) table
each_is_named = search rules

visible_word : (word : List ℕ) → IsWord word → AreVisible word
visible_word word is = visible_name word (subst IsName (word_at word is) (of_word (λ row. IsName row.word) each_is_named word is))

visible_mode : (mode : modes.Mode) → AreVisible (text_of_mode mode)
visible_mode Once = visible_name (text_of_mode Once) refl
visible_mode mode = visible_name (text_of_mode mode) refl

visible_span : (s : spans.Span) → AreVisible (text_of_span s)
visible_span span.All = visible_name (text_of_span span.All) refl
visible_span s = visible_name (text_of_span s) refl

visible_want : (want : wants.Want) → AreVisible (text_of_want want)
visible_want Up = visible_name (text_of_want Up) refl
visible_want want = visible_name (text_of_want want) refl

visible_state : (s : states.State) → AreVisible (text_of_state s)
visible_state state.Off = visible_name (text_of_state state.Off) refl
visible_state s = visible_name (text_of_state s) refl

visible_will : (w : wills.Will) → AreVisible (text_of_will w)
visible_will will.Off = visible_name (text_of_will will.Off) refl
visible_will w = visible_name (text_of_will w) refl

-- ---- lists of fields

abbrev pub AllVisible : List (List ℕ) → Type 0
AllVisible [] = Unit {0}
AllVisible (field ∷ fields) = AreVisible field × AllVisible fields

pub visible_names : (names : List (List ℕ)) → All IsName names → AllVisible names
visible_names [] named = tt
visible_names (name ∷ names) named = (visible_name name (All-head IsName name names named), visible_names names (All-tail IsName name names named))

visible_onto : (b : ℕ) (fields : List (List ℕ)) → IsVisible b → AllVisible fields → AllVisible (onto_first b fields)
visible_onto b [] h rest = (All-cons IsVisible b [] h (All-nil IsVisible), tt)
visible_onto b (field ∷ fields) h rest = (All-cons IsVisible b field h rest.0, rest.1)

visible_by_test : (t : Bool) (b : ℕ) (fields : List (List ℕ)) → is_space b ≡ t → IsTextByte b → AllVisible fields → AllVisible (cond t ([] ∷ fields) (onto_first b fields))
visible_by_test true b fields e range rest = (All-nil IsVisible, rest)
visible_by_test false b fields e range rest = let other : b ≢ 32 = eqb-false b 32 e in visible_onto b fields (omega (arith, range.0), range.1) rest

-- the pieces between the spaces of a text are visible
pub visible_fields : (text : List ℕ) → All IsTextByte text → AllVisible (fields_of text)
visible_fields [] plain = (All-nil IsVisible, tt)
visible_fields (b ∷ bs) plain =
    visible_by_test (is_space b) b (fields_of bs) refl (All-head IsTextByte b bs plain) (visible_fields bs (All-tail IsTextByte b bs plain))

visible_evict : (evict : Bool) → AllVisible (fields_of_evict evict)
visible_evict false = tt
visible_evict true = (visible_name (codes "evict") refl, tt)

visible_field : (k : Kind) (field : Field) → IsOf k field → AreVisible (text_of_field field)
visible_field kind.Name (Name name) h = visible_name name h
visible_field (kind.Number least most) (Number number) h = visible_numeral number h
visible_field kind.Flag (Number number) h = visible_numeral number h
visible_field kind.Letters (Letters letters) h = h.each
visible_field k (Mode mode) h = visible_mode mode
visible_field k (Span s) h = visible_span s
visible_field k (Want want) h = visible_want want
visible_field k (State s) h = visible_state s
visible_field k (Will w) h = visible_will w
visible_field k field h = absurd h

visible_texts : (kinds : List Kind) (fields : List Field) (pieces : List (List ℕ)) → AllZip IsOf kinds fields → AllVisible pieces → AllVisible (map text_of_field fields ++ pieces)
visible_texts [] [] pieces h rest = rest
visible_texts [] (field ∷ fields) pieces h rest = absurd h
visible_texts (k ∷ ks) [] pieces h rest = absurd h
visible_texts (k ∷ ks) (field ∷ fields) pieces h rest = (visible_field k field h.0, visible_texts ks fields pieces h.1 rest)

visible_last : (end : Ending) (last : Last) → EndsAs end last → AllVisible (pieces_of_last last)
visible_last ending.Names (Names names) h = visible_names names h.each
visible_last ending.Pattern (Pattern pattern) h = visible_fields pattern h.plain
visible_last end (Evict evict) h = visible_evict evict
visible_last end Nothing h = tt
visible_last end last h = absurd h

pub visible_in : (form : Form) → IsForm form → AllVisible (fields_in form)
visible_in form h = (visible_word form.word h.word, visible_texts _ form.fields (pieces_of_last form.last) h.fields (visible_last _ form.last h.last))

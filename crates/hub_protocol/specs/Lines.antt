-- What the code's fields mean.
use Rattle.std.specs.Prelude.{◌≡◌, ◌≢◌, ℕ, ◌≤◌, List, [], ◌∷◌, ◌++◌, length, map, take, Option, MatchOption, All}
use Rattle.std.specs.List.{AllZip}
use Rattle.hub_protocol.specs.declared.table.TheConstants.{MOST_FIELDS}
use Rattle.hub_protocol.specs.declared.table.Kind.{Kind}
use Rattle.hub_protocol.specs.declared.table.Kind.TheVariants as kind
use Rattle.hub_protocol.specs.declared.table.Ending.{Ending}
use Rattle.hub_protocol.specs.declared.table.Ending.TheVariants as ending
use Rattle.hub_protocol.specs.declared.line.Field as fields
use Rattle.hub_protocol.specs.declared.line.Field.TheVariants as field
use Rattle.hub_protocol.specs.declared.line.Last as lasts
use Rattle.hub_protocol.specs.declared.line.Last.TheVariants as last
use Rattle.hub_protocol.specs.declared.line.Rest as rests
use Rattle.hub_protocol.specs.declared.line.Rest.TheVariants as rest
use Rattle.hub_protocol.specs.declared.line.Line as lines
use Rattle.hub_protocol.specs.Table.{kinds_of, ending_of, word_of}
use Rattle.hub_protocol.specs.Spelling.{Field, Name, Number, Letters, Mode, Span, Want, State, Will, Last, Nothing, Names, Pattern, Evict, Form, IsOf, IsSound, EndsAs, digit_of, evict_in, fields_of, first_of, flag_in, letters_in, mode_in, name_in, names_in, number_in, others_of, pattern_in, pieces_of_last, says, span_in, state_in, text_of_field, want_in, will_in}

abbrev pub field_shown : fields.Field → Field
field_shown (field.Name name) = Name name.now
field_shown (field.Number number) = Number number
field_shown (field.Letters letters) = Letters letters.now
field_shown (field.Mode mode) = Mode mode
field_shown (field.Span s) = Span s
field_shown (field.Want want) = Want want
field_shown (field.State s) = State s
field_shown (field.Will w) = Will w

abbrev pub last_shown : lasts.Last → Last
last_shown last.Nothing = Nothing
last_shown (last.Names names) = Names (fields_of names.now)
last_shown (last.Pattern pattern) = Pattern pattern.now
last_shown (last.Evict evict) = Evict evict

-- the pieces that are left of a line
abbrev pub pieces_of : rests.Rest → List (List ℕ)
pieces_of rest.Nothing = []
pieces_of (rest.Text text) = fields_of text.now

-- the fields that these kinds are of, in front of others
abbrev pub fields_shown : List Kind → List fields.Field → List Field
fields_shown kinds list = take (length kinds) (map field_shown list)

abbrev pub form_shown : lines.Line → Form
form_shown line = let word = word_of line.verb in says word (fields_shown (kinds_of word) line.fields.now) (last_shown line.last)

-- the number is in its range
abbrev pub IsWithinKind : Kind → Field → Type 0
IsWithinKind (kind.Number least most) (Number number) = (least ≤ number) × (number ≤ most)
IsWithinKind kind.Flag (Number number) = number ≤ 1
IsWithinKind kind field = Unit {0}

-- each number of a line is in the range that the table has for it
abbrev pub AreWithinKinds : Form → Type 0
AreWithinKinds form = AllZip IsWithinKind (kinds_of form.word) form.fields

-- each field is sound
abbrev pub AreAllSound : List fields.Field → Type 0
AreAllSound list = All (λ f. IsSound (field_shown f)) list

-- the field, read as one of this kind
abbrev pub field_as : Kind → Field → Field
field_as kind.Name field = Name (name_in field)
field_as (kind.Number least most) field = Number (number_in field)
field_as kind.Flag field = Number (digit_of (flag_in field))
field_as kind.Letters field = Letters (letters_in field)
field_as kind.Mode field = Mode (mode_in field)
field_as kind.Span field = Span (span_in field)
field_as kind.Want field = Want (want_in field)
field_as kind.State field = State (state_in field)
field_as kind.Will field = Will (will_in field)

-- fields, read as these kinds
abbrev pub fields_as : List Kind → List Field → List Field
fields_as [] fields = []
fields_as (kind ∷ kinds) fields = field_as kind (first_of fields) ∷ fields_as kinds (others_of fields)

abbrev pub last_as : Ending → Last → Last
last_as ending.Nothing last = Nothing
last_as ending.Names last = Names (names_in last)
last_as ending.Pattern last = Pattern (pattern_in last)
last_as ending.Evict last = Evict (evict_in last)

-- the form has this word, and says behind it what the word's row reads from these fields and this end
pub record IsMadeOf (text : List ℕ) (list : List Field) (end : Last) (form : Form) : Type 0 where
  pub word : form.word ≡ text
  pub fields : form.fields ≡ fields_as (kinds_of form.word) list
  pub last : form.last ≡ last_as (ending_of form.word) end

-- the field of this kind with this text, if there is one
abbrev pub IsFieldOf : Kind → List ℕ → Option fields.Field → Type 0
IsFieldOf kind text found = MatchOption found ((field : Field) → IsOf kind field → text ≢ text_of_field field) (λ f. IsOf kind (field_shown f) × (text ≡ text_of_field (field_shown f)))

-- what a line with such an end says by these pieces, if it may end so
abbrev pub IsEnd : Ending → List (List ℕ) → Option lasts.Last → Type 0
IsEnd ending pieces found = MatchOption found ((last : Last) → EndsAs ending last → pieces ≢ pieces_of_last last) (λ l. EndsAs ending (last_shown l) × (pieces ≡ pieces_of_last (last_shown l)))

-- these fields are of these kinds, and they and what is left are the pieces of the rest
pub record AreRead (kinds : List Kind) (rest : rests.Rest) (list : List fields.Field) (left : rests.Rest) : Type 0 where
  pub each : AllZip IsOf kinds (fields_shown kinds list)
  pub pieces : pieces_of rest ≡ map text_of_field (fields_shown kinds list) ++ pieces_of left
  pub whole : length list ≡ MOST_FIELDS
  pub sound : AreAllSound list

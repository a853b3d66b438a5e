-- The forms of request lines, and how each is spelled.
use Rattle.std.specs.Prelude.{◌≡◌, ℕ, ◌<◌, ◌≤◌, ◌^◌, List, [], ◌∷◌, ◌++◌, length, map, Bool, true, false, nat_eq, codes, All, ◌==◌, if◌then◌else◌}
use Rattle.std.specs.Fmt.{decimal}
use Rattle.std.specs.List.{slice_split, join_with_byte, AllZip}
use Rattle.std.specs.Str.{bytes_eq}
use Rattle.hub_letters.specs.declared.want.Want as wants
use Rattle.hub_letters.specs.declared.want.Want.TheVariants.{Up, Ready, Down, Finished, Restarted, RestartedReady}
use Rattle.hub_letters.specs.declared.state.State as states
use Rattle.hub_letters.specs.declared.state.State.TheVariants as state
use Rattle.hub_letters.specs.declared.mode.Mode as modes
use Rattle.hub_letters.specs.declared.mode.Mode.TheVariants.{Once, Repeat}
use Rattle.hub_letters.specs.declared.span.Span as spans
use Rattle.hub_letters.specs.declared.span.Span.TheVariants as span
use Rattle.hub_requests.specs.Names.{is_name}
use Rattle.hub_requests.specs.Ranges.{IsInRange}
use Rattle.hub_requests.specs.declared.bounds.TheConstants.{MOST_SERVICES}
use Rattle.hub_requests.specs.declared.request.Request.{Request}
use Rattle.hub_requests.specs.declared.request.Request.TheVariants as request
use Rattle.hub_requests.specs.declared.will.Will as wills
use Rattle.hub_requests.specs.declared.will.Will.TheVariants as will
use Rattle.hub_protocol.specs.declared.table.Kind.{Kind}
use Rattle.hub_protocol.specs.declared.table.Kind.TheVariants as kind
use Rattle.hub_protocol.specs.declared.table.Ending.{Ending}
use Rattle.hub_protocol.specs.declared.table.Ending.TheVariants as ending
use Rattle.hub_protocol.specs.Table.{IsWord, kinds_of, ending_of}

-- what a field of a line says
pub data Field : Type 0 where
  Name : (name : List ℕ) → Field
  Number : (number : ℕ) → Field
  Letters : (letters : List ℕ) → Field
  Mode : (mode : modes.Mode) → Field
  Span : (span : spans.Span) → Field
  Want : (want : wants.Want) → Field
  State : (s : states.State) → Field
  Will : (w : wills.Will) → Field

-- what the end of a line says; a pattern with spaces is several pieces
pub data Last : Type 0 where
  Nothing : Last
  Names : (names : List (List ℕ)) → Last
  Pattern : (pattern : List ℕ) → Last
  Evict : (evict : Bool) → Last

-- what a line says, before its numbers are checked against their ranges
pub record Form : Type 0 where
  pub word : List ℕ
  pub fields : List Field
  pub last : Last

-- a numeral has at most 13 digits
abbrev pub IsNumeral : ℕ → Type 0
IsNumeral n = n < 10 ^ 13

abbrev pub IsName : List ℕ → Type 0
IsName name = is_name name ≡ true

-- one or more letters
pub record AreLetters (letters : List ℕ) : Type 0 where
  pub some : 0 < length letters
  pub each : All (λ b. (33 ≤ b) × (b ≤ 126)) letters

-- 1 to 200 bytes that may be in a line
pub record IsPatternText (pattern : List ℕ) : Type 0 where
  pub some : 0 < length pattern
  pub short : length pattern ≤ 200
  pub plain : All (λ b. (32 ≤ b) × (b ≤ 126)) pattern

-- 1 to 32 names
pub record AreNames (names : List (List ℕ)) : Type 0 where
  pub some : 0 < length names
  pub few : length names ≤ MOST_SERVICES
  pub each : All IsName names

-- the field says what it may say
abbrev pub IsOf : Kind → Field → Type 0
IsOf kind.Name (Name name) = IsName name
IsOf (kind.Number least most) (Number number) = IsNumeral number
IsOf kind.Flag (Number number) = IsNumeral number
IsOf kind.Letters (Letters letters) = AreLetters letters
IsOf kind.Mode (Mode mode) = Unit {0}
IsOf kind.Span (Span s) = Unit {0}
IsOf kind.Want (Want want) = Unit {0}
IsOf kind.State (State s) = Unit {0}
IsOf kind.Will (Will w) = Unit {0}
IsOf kind field = ⊥

-- the line ends as it may end
abbrev pub EndsAs : Ending → Last → Type 0
EndsAs ending.Nothing Nothing = Unit {0}
EndsAs ending.Names (Names names) = AreNames names
EndsAs ending.Pattern (Pattern pattern) = IsPatternText pattern
EndsAs ending.Evict (Evict evict) = Unit {0}
EndsAs ending last = ⊥

-- a name is one, a number has a numeral, and letters are some, whatever the line
abbrev pub IsSound : Field → Type 0
IsSound (Name name) = IsName name
IsSound (Number number) = IsNumeral number
IsSound (Letters letters) = AreLetters letters
IsSound field = Unit {0}

abbrev pub AreSound : List Field → Type 0
AreSound [] = Unit {0}
AreSound (field ∷ fields) = IsSound field × AreSound fields

-- names are 1 to 32, and a pattern is short
abbrev pub EndsSoundly : Last → Type 0
EndsSoundly (Names names) = AreNames names
EndsSoundly (Pattern pattern) = IsPatternText pattern
EndsSoundly last = Unit {0}

-- each field is sound, and the line ends soundly
pub record IsSoundForm (form : Form) : Type 0 where
  pub fields : AreSound form.fields
  pub last : EndsSoundly form.last

-- a row of the table has the word, and the line says behind it what the row wants
pub record IsForm (form : Form) : Type 0 where
  pub word : IsWord form.word
  pub fields : AllZip IsOf (kinds_of form.word) form.fields
  pub last : EndsAs (ending_of form.word) form.last

-- whether a listener goes on after a hit
abbrev pub text_of_mode : modes.Mode → List ℕ
text_of_mode Once = codes "once"
text_of_mode Repeat = codes "repeat"

-- how many of the services a wait is for
abbrev pub text_of_span : spans.Span → List ℕ
text_of_span span.All = codes "all"
text_of_span span.Any = codes "any"

abbrev pub text_of_want : wants.Want → List ℕ
text_of_want Up = codes "up"
text_of_want Ready = codes "ready"
text_of_want Down = codes "down"
text_of_want Finished = codes "finished"
text_of_want Restarted = codes "restarted"
text_of_want RestartedReady = codes "restarted-ready"

abbrev pub text_of_state : states.State → List ℕ
text_of_state state.Off = codes "off"
text_of_state state.Down = codes "down"
text_of_state state.Up = codes "up"
text_of_state state.Ready = codes "ready"
text_of_state state.Failed = codes "failed"

abbrev pub text_of_will : wills.Will → List ℕ
text_of_will will.Off = codes "off"
text_of_will will.Down = codes "down"
text_of_will will.Failed = codes "failed"
text_of_will will.None = codes "none"

abbrev pub is_space : ℕ → Bool
is_space b = b == 32

-- the pieces between the spaces of a text, or the whole text if it has none
abbrev pub fields_of : List ℕ → List (List ℕ)
fields_of text = slice_split is_space text

-- the last field of a form that evicts is the word `evict`; one that doesn't has no such field
abbrev pub fields_of_evict : Bool → List (List ℕ)
fields_of_evict false = []
fields_of_evict true = codes "evict" ∷ []

abbrev pub text_of_field : Field → List ℕ
text_of_field (Name name) = name
text_of_field (Number number) = decimal number
text_of_field (Letters letters) = letters
text_of_field (Mode mode) = text_of_mode mode
text_of_field (Span s) = text_of_span s
text_of_field (Want want) = text_of_want want
text_of_field (State s) = text_of_state s
text_of_field (Will w) = text_of_will w

abbrev pub pieces_of_last : Last → List (List ℕ)
pieces_of_last Nothing = []
pieces_of_last (Names names) = names
pieces_of_last (Pattern pattern) = fields_of pattern
pieces_of_last (Evict evict) = fields_of_evict evict

-- the pieces of a form's line
abbrev pub fields_in : Form → List (List ℕ)
fields_in form = form.word ∷ (map text_of_field form.fields ++ pieces_of_last form.last)

-- the one line of a form: its pieces, with one space between two
abbrev pub spelling : Form → List ℕ
spelling form = join_with_byte 32 (fields_in form)

abbrev pub digit_of : Bool → ℕ
digit_of false = 0
digit_of true = 1

abbrev pub says : List ℕ → List Field → Last → Form
says word fields last = record { word = word; fields = fields; last = last }

-- the form of a request
abbrev pub form_of : Request → Form
form_of (request.Dir name waiting total evict) = says (codes "dir") (Name name ∷ Number waiting ∷ Number total ∷ []) (Evict evict)
form_of (request.Svc name waiting total notifies evict) = says (codes "svc") (Name name ∷ Number waiting ∷ Number total ∷ Number (digit_of notifies) ∷ []) (Evict evict)
form_of (request.Sub name) = says (codes "sub") (Name name ∷ []) Nothing
form_of (request.Pub name letters) = says (codes "pub") (Name name ∷ Letters letters ∷ []) Nothing
form_of (request.Tell name s) = says (codes "tell") (Name name ∷ State s ∷ []) Nothing
form_of (request.Will name w) = says (codes "will") (Name name ∷ Will w ∷ []) Nothing
form_of (request.Take id max) = says (codes "take") (Number id ∷ Number max ∷ []) Nothing
form_of (request.Cancel id) = says (codes "cancel") (Number id ∷ []) Nothing
form_of (request.Close name) = says (codes "close") (Name name ∷ []) Nothing
form_of (request.Status name) = says (codes "status") (Name name ∷ []) Nothing
form_of (request.About name) = says (codes "about") (Name name ∷ []) Nothing
form_of (request.Listen name mode pattern) = says (codes "listen") (Name name ∷ Mode mode ∷ []) (Pattern pattern)
form_of (request.Poll id) = says (codes "poll") (Number id ∷ []) Nothing
form_of (request.Await id turns) = says (codes "await") (Number id ∷ Number turns ∷ []) Nothing
form_of (request.Next id turns) = says (codes "next") (Number id ∷ Number turns ∷ []) Nothing
form_of (request.Wait s want turns names) = says (codes "wait") (Span s ∷ Want want ∷ Number turns ∷ []) (Names names)
form_of (request.Names from) = says (codes "names") (Number from ∷ []) Nothing

-- ---- what a field or an end says, if it is of this kind, and something else if it isn't

abbrev pub name_in : Field → List ℕ
name_in (Name name) = name
name_in field = codes "-"

abbrev pub number_in : Field → ℕ
number_in (Number number) = number
number_in field = 0

abbrev pub flag_in : Field → Bool
flag_in field = nat_eq (number_in field) 1

abbrev pub letters_in : Field → List ℕ
letters_in (Letters letters) = letters
letters_in field = []

abbrev pub mode_in : Field → modes.Mode
mode_in (Mode mode) = mode
mode_in field = Once

abbrev pub span_in : Field → spans.Span
span_in (Span s) = s
span_in field = span.All

abbrev pub want_in : Field → wants.Want
want_in (Want want) = want
want_in field = Up

abbrev pub state_in : Field → states.State
state_in (State s) = s
state_in field = state.Off

abbrev pub will_in : Field → wills.Will
will_in (Will w) = w
will_in field = will.None

abbrev pub names_in : Last → List (List ℕ)
names_in (Names names) = names
names_in last = []

abbrev pub pattern_in : Last → List ℕ
pattern_in (Pattern pattern) = pattern
pattern_in last = []

abbrev pub evict_in : Last → Bool
evict_in (Evict evict) = evict
evict_in last = false

abbrev pub first_of : List Field → Field
first_of [] = Number 0
first_of (field ∷ fields) = field

abbrev pub others_of : List Field → List Field
others_of [] = []
others_of (field ∷ fields) = fields

-- the request of a word, fields and an end
abbrev pub request_by : List ℕ → Field → Field → Field → Field → Last → Request
request_by word a b c d last =
    if bytes_eq word (codes "dir") then request.Dir (name_in a) (number_in b) (number_in c) (evict_in last)
    else (if bytes_eq word (codes "svc") then request.Svc (name_in a) (number_in b) (number_in c) (flag_in d) (evict_in last)
    else (if bytes_eq word (codes "sub") then request.Sub (name_in a)
    else (if bytes_eq word (codes "pub") then request.Pub (name_in a) (letters_in b)
    else (if bytes_eq word (codes "tell") then request.Tell (name_in a) (state_in b)
    else (if bytes_eq word (codes "will") then request.Will (name_in a) (will_in b)
    else (if bytes_eq word (codes "take") then request.Take (number_in a) (number_in b)
    else (if bytes_eq word (codes "cancel") then request.Cancel (number_in a)
    else (if bytes_eq word (codes "close") then request.Close (name_in a)
    else (if bytes_eq word (codes "status") then request.Status (name_in a)
    else (if bytes_eq word (codes "about") then request.About (name_in a)
    else (if bytes_eq word (codes "listen") then request.Listen (name_in a) (mode_in b) (pattern_in last)
    else (if bytes_eq word (codes "poll") then request.Poll (number_in a)
    else (if bytes_eq word (codes "await") then request.Await (number_in a) (number_in b)
    else (if bytes_eq word (codes "next") then request.Next (number_in a) (number_in b)
    else (if bytes_eq word (codes "wait") then request.Wait (span_in a) (want_in b) (number_in c) (names_in last)
    else request.Names (number_in a))))))))))))))))

-- the request of a form; any, if the form is that of none
abbrev pub request_from : Form → Request
request_from form =
    let more = others_of form.fields in
    let rest = others_of more in
    request_by form.word (first_of form.fields) (first_of more) (first_of rest) (first_of (others_of rest)) form.last

-- a request whose numbers are in their ranges has the form
abbrev pub IsWithin : Form → Type 0
IsWithin form = (request : Request) × (form_of request ≡ form) × IsInRange request

-- How fifodirs are, and what is shown of it.
use Rattle.std.specs.Prelude.{◌≡◌, ◌≢◌, ◌⊎◌, ℕ, ◌+◌, max, List, [], ◌∷◌, ◌++◌, length, codes, Bool, true, false, if◌then◌else◌, Option, Result, Ok, Err, MatchResult}
use Rattle.std.specs.Io.KnownBytes.{Appends}
use Rattle.hub_io.specs.Faults.{AppendsPart}
use Rattle.hub_client.specs.declared.fault.RelayError.TheVariants as relay
use Rattle.hub_ask.specs.declared.fault.AskError.{AskError}
use Rattle.hub_ask.specs.declared.fault.AskError.TheVariants.{Relay}
use Rattle.hub_requests.specs.Listings.{joined}
use Rattle.hub_requests.specs.Texts.{word_of}
use Rattle.hub_requests.specs.declared.about.About.{About}
use Rattle.hub_requests.specs.declared.request.Request.{Request}
use Rattle.hub_requests.specs.declared.request.Request.TheVariants as request
use Rattle.hub_requests.specs.declared.reply.Reply.{Reply}
use Rattle.hub_requests.specs.declared.reply.Reply.TheVariants as reply
use Rattle.hub_requests.specs.declared.reply.Refusal.{Refusal}
use Rattle.hub_requests.specs.declared.reply.Refusal.TheVariants.{Right, Name, Closed}
use Rattle.hub_protocol.specs.Replies.{IsShown}
use Rattle.hub_protocol.specs.Spelling.{fields_of, form_of, spelling}
use Rattle.hub_protocol.specs.declared.replies.BorrowedReply.{BorrowedReply}
use Rattle.hub_protocol.specs.declared.replies.BorrowedReply.TheVariants as shown
use Rattle.hub_record.specs.declared.Status.{Status}
use Rattle.hub_ask.specs.Hearing.{line_of}
use Rattle.hub_ask.specs.declared.heard.Heard.{Heard}
use Rattle.hub_ask.specs.declared.outcome.Outcome.{Outcome}
use Rattle.hub_ask.specs.declared.outcome.Outcome.TheVariants.{Done, Refused}
use Rattle.hub_views.specs.Descriptions.{columns_of, object_of, row_of}
use Rattle.hub_look.specs.Looking.{LooksBy}
use Rattle.hub_ask.specs.Streams.{Streams, IsHeard, IsReplied, IsNoted, note_of}
use Rattle.hub_views.specs.declared.description.Description.{Description}

-- how the fifodir of a name is, or why the hub doesn't say
abbrev pub Verdict : Type 0
Verdict = Result Status Refusal

-- how it is and what it is, or why the hub doesn't say
abbrev pub Finding : Type 0
Finding = Result Description Refusal

-- ---- notes

-- why a name is refused
abbrev pub reason_of : Refusal → List ℕ
reason_of Right = codes "this socket only looks: ask at the hub's own socket"
reason_of Name = codes "no such fifodir"
reason_of Closed = codes "closed"
reason_of refusal = codes "no " ++ word_of refusal

-- ---- what is asked

-- The hub refused the look at a name, or a hub would refuse its line, and then nothing was sent. There is one note of it.
pub record IsRefused (before after : Streams) (asked : Request) (name : List ℕ) (refusal : Refusal) : Type 0 where
  pub between : Streams
  pub why : IsReplied before between asked (reply.No refusal)
      ⊎ ((between ≡ before) × LooksBy (spelling (form_of asked)) (Err refusal))
  pub told : IsNoted between after (note_of name (reason_of refusal))

-- The look was sent once, and this was heard, which is no refusal. Or it is refused.
abbrev pub IsLookedUp : (before after : Streams) (asked : Request) (name : List ℕ) → Result Heard Refusal → Type 0
IsLookedUp before after asked name looked =
    MatchResult looked (λ heard. IsHeard before after asked (line_of heard)) (IsRefused before after asked name)

-- The look that this line spells was sent once, and this was heard. There is no note of it.
pub record IsHeardBy (before after : Streams) (line heard : List ℕ) : Type 0 where
  pub asked : Request
  pub spelled : LooksBy line (Ok asked)
  pub answered : IsHeard before after asked heard

-- The look that this line spells was sent once, and this was heard, which is no refusal. Or each look that it spells is refused.
abbrev pub IsFoundBy : (before after : Streams) (line name : List ℕ) → Result Heard Refusal → Type 0
IsFoundBy before after line name found = MatchResult found (λ heard. IsHeardBy before after line (line_of heard))
    (λ refusal. (asked : Request) → spelling (form_of asked) ≡ line → IsRefused before after asked name refusal)

-- What was heard shows this, in the variant of its kind. Or the look is refused.
abbrev pub TellsBy : {T : Type 0} → (variant : T → BorrowedReply) → Result Heard Refusal → Result T Refusal → Type 0
TellsBy variant (Ok heard) (Ok it) = IsShown (line_of heard) (variant it)
TellsBy variant (Err refusal) (Err other) = other ≡ refusal
TellsBy variant looked told = ⊥

-- The hub was asked this of the name once, and this is what it says: a reply of this kind, or a refusal.
abbrev pub HubSays : {T : Type 0} → (kind : T → Reply) → (asked : Request) → (before after : Streams) → (name : List ℕ) → Result T Refusal → Type 0
HubSays kind asked before after name (Ok it) = IsReplied before after asked (kind it)
HubSays kind asked before after name (Err refusal) = IsRefused before after asked name refusal

-- how the name is
abbrev pub IsJudged : (before after : Streams) (name : List ℕ) → Verdict → Type 0
IsJudged before after name = HubSays reply.State (request.Status name) before after name

-- what the name is
abbrev pub IsAbout : (before after : Streams) (name : List ℕ) → Result About Refusal → Type 0
IsAbout before after name = HubSays reply.About (request.About name) before after name

-- The hub was asked once what the name is, and then for its status, unless it refused the former. This is what it says of both.
abbrev pub IsDescribed : (before after : Streams) (name : List ℕ) → Finding → Type 0
IsDescribed before after name (Ok it) = (between : Streams) × IsAbout before between name (Ok it.about) × IsJudged between after name (Ok it.status)
IsDescribed before after name (Err refusal) = IsAbout before after name (Err refusal)
    ⊎ ((between : Streams) × (about : About) × IsAbout before between name (Ok about) × IsJudged between after name (Err refusal))

-- Each of the names was asked about once, one after another, and these are what the hub says of them. text gives the bytes of a name.
abbrev pub AreDescribed : {Word : Type 0} → (text : Word → List ℕ) → (before after : Streams) → List Word → List Finding → Type 0
AreDescribed text before after [] [] = after ≡ before
AreDescribed text before after (name ∷ names) (finding ∷ findings) =
    (between : Streams) × IsDescribed before between (text name) finding × AreDescribed text between after names findings
AreDescribed text before after names findings = ⊥

-- a refusal after one that is refused
abbrev pub outcome_after : Outcome → Finding → Outcome
outcome_after outcome (Ok it) = outcome
outcome_after outcome (Err refusal) = Refused

-- a refusal if one of them is refused
abbrev pub outcome_of_all : List Finding → Outcome
outcome_of_all [] = Done
outcome_of_all (Ok it ∷ findings) = outcome_of_all findings
outcome_of_all (Err refusal ∷ findings) = Refused

-- The hub was asked for its names from this place on, by one request after another, until it listed none. These are the names of each
-- reply.
abbrev pub AreListed : (before after : Streams) → (from : ℕ) → (pages : List (List (List ℕ))) → Type 0
AreListed before after from [] = IsReplied before after (request.Names from) reply.Nothing
AreListed before after from (page ∷ pages) =
    (between : Streams) × IsReplied before between (request.Names from) (reply.Listed page) × AreListed between after (from + length page) pages

-- The hub was asked for its names so, and these are all that it listed, in order.
pub record ListsNames (before after : Streams) (names : List (List ℕ)) : Type 0 where
  pub pages : List (List (List ℕ))
  pub listed : AreListed before after 0 pages
  pub all : names ≡ joined pages

-- A reply listed some names, which were put behind these, or it listed none.
abbrev pub IsPutOf : (read : BorrowedReply) (names grown : List (List ℕ)) → (are_all : Bool) → Type 0
IsPutOf (shown.Listed listed) names grown false = (listed.now ≢ []) × (grown ≡ names ++ fields_of listed.now)
IsPutOf shown.Nothing names grown true = grown ≡ names
IsPutOf read names grown are_all = ⊥

-- The hub was asked for the names behind these. Those of its reply were put there, or it listed none.
abbrev pub IsPagePut : (before after : Streams) (names grown : List (List ℕ)) → (are_all : Bool) → Type 0
IsPagePut before after names grown false =
    (page : List (List ℕ)) × IsReplied before after (request.Names (length names)) (reply.Listed page) × (grown ≡ names ++ page)
IsPagePut before after names grown true = IsReplied before after (request.Names (length names)) reply.Nothing × (grown ≡ names)

-- ---- what is shown

-- the row of a name, or its object, if the hub says how it is
abbrev pub row_by : (is_json : Bool) (width : ℕ) (name : List ℕ) → Finding → List ℕ
row_by is_json width name (Ok it) = if is_json then object_of name it else row_of width name (columns_of it)
row_by is_json width name (Err refusal) = []

-- those of these names
abbrev pub rows_of : {Word : Type 0} → (text : Word → List ℕ) → (is_json : Bool) (width : ℕ) → List Word → List Finding → List ℕ
rows_of text is_json width (name ∷ names) (finding ∷ findings) =
    row_by is_json width (text name) finding ++ rows_of text is_json width names findings
rows_of text is_json width names findings = []

-- the headings
abbrev pub head_of : (width : ℕ) → List ℕ
head_of width = row_of width (codes "NAME") (codes "KIND     STATE            EVENTS     SUBSCRIBERS  PENDING       POLICY")

-- the longest of the names and of their heading
abbrev pub width_of : {Word : Type 0} → (text : Word → List ℕ) → List Word → ℕ
width_of text [] = 4
width_of text (name ∷ names) = max (length (text name)) (width_of text names)

-- the headings, or words if there is no name
abbrev pub headings_of : {Word : Type 0} → (text : Word → List ℕ) → List Word → List ℕ
headings_of text [] = codes "no services" ++ 10 ∷ []
headings_of text names = head_of (width_of text names)

-- what is above the rows; nothing is above objects
abbrev pub top_of : {Word : Type 0} → (text : Word → List ℕ) → (is_json : Bool) → List Word → List ℕ
top_of text is_json names = if is_json then [] else headings_of text names

-- the table of these names, or their objects
abbrev pub table_of : {Word : Type 0} → (text : Word → List ℕ) → (is_json : Bool) → List Word → List Finding → List ℕ
table_of text is_json names findings = top_of text is_json names ++ rows_of text is_json (width_of text names) names findings

-- Each of the names was asked about once, in order. This is the table of what the hub says of them, and how the command went.
pub record IsTable {Word : Type 0} (text : Word → List ℕ) (is_json : Bool) (before after : Streams) (names : List Word) (table : List ℕ) (outcome : Outcome) : Type 0 where
  pub findings : List Finding
  pub described : AreDescribed text before after names findings
  pub shown : table ≡ table_of text is_json names findings
  pub went : outcome ≡ outcome_of_all findings

-- That table was put behind these bytes.
abbrev pub PutsTable : {Word : Type 0} → (text : Word → List ℕ) → (is_json : Bool) → (before after : Streams) → List Word → (bytes grown : List ℕ) → Outcome → Type 0
PutsTable text is_json before after names bytes grown outcome = (table : List ℕ) × IsTable text is_json before after names table outcome × (grown ≡ bytes ++ table)

-- A table was written, once and whole.
pub record ShowsTable {Word : Type 0} (text : Word → List ℕ) (is_json : Bool) (before after : Streams) (held holds : Option (List ℕ)) (names : List Word) (outcome : Outcome) : Type 0 where
  pub table : List ℕ
  pub written : Appends held holds table
  pub is : IsTable text is_json before after names table outcome

-- The hub listed its names, and then their table was written. Or it refused that, and nothing was written.
abbrev pub ShowsAll : (is_json : Bool) (before after : Streams) (held holds : Option (List ℕ)) → Outcome → Type 0
ShowsAll is_json before after held holds outcome =
    ((names : List (List ℕ)) × (between : Streams) × ListsNames before between names × ShowsTable (λ name. name) is_json between after held holds names outcome)
    ⊎ ((outcome ≡ Refused) × (holds ≡ held))

-- What is shown of these names; of all names of the hub if there is none.
abbrev pub ShowsStates : {Word : Type 0} → (text : Word → List ℕ) → (is_json : Bool) → (before after : Streams) → (held holds : Option (List ℕ)) → List Word → Outcome → Type 0
ShowsStates text is_json before after held holds [] outcome = ShowsAll is_json before after held holds outcome
ShowsStates text is_json before after held holds names outcome = ShowsTable text is_json before after held holds names outcome

-- Only a part of a table was written.
pub record CutsTable {Word : Type 0} (text : Word → List ℕ) (is_json : Bool) (before after : Streams) (held holds : Option (List ℕ)) (names : List Word) : Type 0 where
  pub table : List ℕ
  pub outcome : Outcome
  pub written : AppendsPart held holds table
  pub is : IsTable text is_json before after names table outcome

-- How the table of these names isn't shown: a part of it was written, and else nothing.
abbrev pub FailsToShow : {Word : Type 0} → (text : Word → List ℕ) → (is_json : Bool) → (before after : Streams) → (held holds : Option (List ℕ)) → List Word → AskError → Type 0
FailsToShow text is_json before after held holds names (Relay relay.Output) = CutsTable text is_json before after held holds names
FailsToShow text is_json before after held holds names error = holds ≡ held

-- How the table of all names of the hub isn't shown.
abbrev pub FailsToShowAll : (is_json : Bool) (before after : Streams) → (held holds : Option (List ℕ)) → AskError → Type 0
FailsToShowAll is_json before after held holds (Relay relay.Output) =
    (names : List (List ℕ)) × (between : Streams) × ListsNames before between names × CutsTable (λ name. name) is_json between after held holds names
FailsToShowAll is_json before after held holds error = holds ≡ held

-- How these names aren't shown.
abbrev pub FailsToShowStates : {Word : Type 0} → (text : Word → List ℕ) → (is_json : Bool) → (before after : Streams) → (held holds : Option (List ℕ)) → List Word → AskError → Type 0
FailsToShowStates text is_json before after held holds [] error = FailsToShowAll is_json before after held holds error
FailsToShowStates text is_json before after held holds names error = FailsToShow text is_json before after held holds names error

-- One name more.
use Rattle.std.proofs.Common.{◌≡◌, ◌≢◌, ◌⊎◌, inl, inr, Bool, true, false, IfOk, IfErr, IsErrAnd, ℕ, ◌+◌, ◌<◌, ◌≤◌, max, Option, map, List, [], ◌∷◌, ◌++◌, length, take, get_or, Result, Ok, Err, refl, sym, ap, ◌∙◌, subst, arith, append-nil, append_assoc, take_all}
use Rattle.std.proofs.lemmas.Bool.{false≢true}
use Rattle.std.proofs.lemmas.List.{take_more}
use Rattle.std.specs.Io.KnownBytes.{Appends}
use Rattle.hub_io.specs.Faults.{AppendsPart}
use Rattle.hub_client.specs.declared.fault.RelayError.TheVariants as relay
use Rattle.hub_ask.specs.declared.fault.AskError.{AskError}
use Rattle.hub_ask.specs.declared.fault.AskError.TheVariants.{Relay}
use Rattle.hub_ask.specs.declared.outcome.Outcome.{Outcome}
use Rattle.hub_ask.specs.declared.outcome.Outcome.TheVariants.{Done}
use Rattle.hub_look.proofs.Subscribed.{map_more}
use Rattle.hub_look.specs.Stops.{IsFaultOf, IsOwnFault, IsOwnStop, IsRefusal}
use Rattle.hub_ask.specs.Streams.{Streams}
use Rattle.hub_look.specs.declared.stop.Stop.{Stop}
use Rattle.hub_look.specs.declared.stop.Stop.TheVariants.{Fault}
use Rattle.hub_look.specs.Tables.{FailsToShow, FailsToShowAll, ListsNames, ShowsAll, ShowsTable, Finding, AreDescribed, IsDescribed, IsTable, PutsTable, head_of, outcome_after, outcome_of_all, row_by, rows_of, table_of, top_of, width_of}

pub described_more : {Word : Type 0} (text : Word → List ℕ) (before between after : Streams) (names : List Word) (findings : List Finding) (name : Word) (finding : Finding)
    → AreDescribed text before between names findings → IsDescribed between after (text name) finding
    → AreDescribed text before after (names ++ name ∷ []) (findings ++ finding ∷ [])
described_more text before between after [] [] name finding same more = (after, subst (λ it. IsDescribed it after (text name) finding) same more, refl)
described_more text before between after [] (f ∷ findings) name finding h more = absurd h
described_more text before between after (n ∷ names) [] name finding h more = absurd h
described_more text before between after (n ∷ names) (f ∷ findings) name finding h more =
    (h.0, h.1, described_more text h.0 between after names findings name finding h.2 more)

pub rows_more : {Word : Type 0} (text : Word → List ℕ) (is_json : Bool) (width : ℕ) (before after : Streams) (names : List Word) (findings : List Finding) (name : Word) (finding : Finding)
    → AreDescribed text before after names findings
    → rows_of text is_json width (names ++ name ∷ []) (findings ++ finding ∷ []) ≡ rows_of text is_json width names findings ++ row_by is_json width (text name) finding
rows_more text is_json width before after [] [] name finding h = append-nil (row_by is_json width (text name) finding)
rows_more text is_json width before after [] (f ∷ findings) name finding h = absurd h
rows_more text is_json width before after (n ∷ names) [] name finding h = absurd h
rows_more text is_json width before after (n ∷ names) (f ∷ findings) name finding h =
    ap (λ rows. row_by is_json width (text n) f ++ rows) (rows_more text is_json width h.0 after names findings name finding h.2)
    ∙ sym (append_assoc (row_by is_json width (text n) f) (rows_of text is_json width names findings) (row_by is_json width (text name) finding))

pub outcome_more : (findings : List Finding) (finding : Finding) → outcome_of_all (findings ++ finding ∷ []) ≡ outcome_after (outcome_of_all findings) finding
outcome_more [] (Ok it) = refl
outcome_more [] (Err refusal) = refl
outcome_more (Ok it ∷ findings) finding = outcome_more findings finding
outcome_more (Err refusal ∷ findings) (Ok it) = refl
outcome_more (Err refusal ∷ findings) (Err other) = refl

pub width_more : {Word : Type 0} (text : Word → List ℕ) (names : List Word) (name : Word) → width_of text (names ++ name ∷ []) ≡ max (width_of text names) (length (text name))
width_more text [] name = omega arith
width_more text (n ∷ names) name =
    let more = width_more text names name in
    omega (arith, more)

-- ---- a table as far as it is

-- the rows so far, below what is above them
pub record IsSoFar {Word : Type 0} (text : Word → List ℕ) (is_json : Bool) (before after : Streams) (names : List Word) (width : ℕ) (top table : List ℕ) (outcome : Outcome) : Type 0 where
  pub findings : List Finding
  pub described : AreDescribed text before after names findings
  pub shown : table ≡ top ++ rows_of text is_json width names findings
  pub went : outcome ≡ outcome_of_all findings

pub none_so_far : {Word : Type 0} (text : Word → List ℕ) (is_json : Bool) (before : Streams) (width : ℕ) (top table : List ℕ) (outcome : Outcome)
    → table ≡ top → outcome ≡ Done → IsSoFar text is_json before before [] width top table outcome
none_so_far text is_json before width top table outcome is done =
    record { findings = []; described = refl; shown = is ∙ sym (append-nil top); went = done }

pub one_more : {Word : Type 0} (text : Word → List ℕ) (is_json : Bool) (before between after : Streams) (names : List Word) (at : ℕ) (name : Word) (width : ℕ) (top table grown : List ℕ) (outcome then : Outcome) (finding : Finding)
    → at < length names → IsSoFar text is_json before between (take at names) width top table outcome → IsDescribed between after (text (get_or names at name)) finding
    → grown ≡ table ++ row_by is_json width (text (get_or names at name)) finding → then ≡ outcome_after outcome finding
    → IsSoFar text is_json before after (take (at + 1) names) width top grown then
one_more text is_json before between after names at name width top table grown outcome then finding within h described row went =
    subst (λ it. IsSoFar text is_json before after it width top grown then) (sym (take_more names at name within))
    (record {
      findings = h.findings ++ finding ∷ [];
      described = described_more text before between after (take at names) h.findings (get_or names at name) finding h.described described;
      shown = row ∙ ap (λ t. t ++ row_by is_json width (text (get_or names at name)) finding) h.shown
          ∙ append_assoc top (rows_of text is_json width (take at names) h.findings) (row_by is_json width (text (get_or names at name)) finding)
          ∙ ap (λ t. top ++ t) (sym (rows_more text is_json width before between (take at names) h.findings (get_or names at name) finding h.described));
      went = went ∙ ap (λ o. outcome_after o finding) h.went ∙ sym (outcome_more h.findings finding);
    })

pub whole_table : {Word : Type 0} (text : Word → List ℕ) (is_json : Bool) (before after : Streams) (names : List Word) (at width : ℕ) (bytes grown : List ℕ) (outcome : Outcome)
    → length names ≤ at → width ≡ width_of text names → IsSoFar text is_json before after (take at names) width (bytes ++ top_of text is_json names) grown outcome
    → PutsTable text is_json before after names bytes grown outcome
whole_table text is_json before after names at width bytes grown outcome end wide h =
    let all : IsSoFar text is_json before after names width (bytes ++ top_of text is_json names) grown outcome =
    subst (λ it. IsSoFar text is_json before after it width (bytes ++ top_of text is_json names) grown outcome) (take_all at names end) h in (
      table_of text is_json names all.findings,
      record { findings = all.findings; described = all.described; shown = refl; went = all.went },
      all.shown ∙ append_assoc bytes (top_of text is_json names) (rows_of text is_json width names all.findings)
          ∙ ap (λ w. bytes ++ (top_of text is_json names ++ rows_of text is_json w names all.findings)) wide,
    )

-- a table behind nothing
table_alone : {Word : Type 0} (text : Word → List ℕ) (is_json : Bool) (before after : Streams) (names : List Word) (bytes table : List ℕ) (outcome : Outcome)
    → bytes ≡ [] → PutsTable text is_json before after names bytes table outcome → IsTable text is_json before after names table outcome
table_alone text is_json before after names bytes table outcome none h =
    subst (λ it. IsTable text is_json before after names it outcome) (sym (h.2 ∙ ap (λ b. b ++ h.0) none)) h.1

-- ---- it is written

pub shows_table : {Word : Type 0} (text : Word → List ℕ) (is_json : Bool) (before after : Streams) (held holds : Option (List ℕ)) (names : List Word) (bytes table written : List ℕ) (outcome : Outcome)
    → bytes ≡ [] → PutsTable text is_json before after names bytes table outcome → written ≡ table → Appends held holds written
    → ShowsTable text is_json before after held holds names outcome
shows_table text is_json before after held holds names bytes table written outcome none h same appends =
    record { table = table; written = subst (Appends held holds) same appends; is = table_alone text is_json before after names bytes table outcome none h }

-- a part of it is written
pub cuts_table : {Word T : Type 0} (text : Word → List ℕ) (is_json : Bool) (before after : Streams) (held holds : Option (List ℕ)) (names : List Word) (bytes table written : List ℕ) (outcome : Outcome) (result : Result T Stop) (stop : Stop)
    → bytes ≡ [] → PutsTable text is_json before after names bytes table outcome → written ≡ table → IsErrAnd result (λ it. it ≡ stop)
    → (stop ≡ Fault (Relay relay.Output)) × AppendsPart held holds written
    → IfErr result (IsFaultOf (FailsToShow text is_json before after held holds names))
cuts_table text is_json before after held holds names bytes table written outcome (Ok done) stop none h same is part = tt
cuts_table text is_json before after held holds names bytes table written outcome (Err other) stop none h same is part = (
  Relay relay.Output,
  is ∙ part.0,
  record { table = table; outcome = outcome; written = subst (AppendsPart held holds) same part.1; is = table_alone text is_json before after names bytes table outcome none h },
)

nothing_written : {Word : Type 0} (text : Word → List ℕ) (is_json : Bool) (before after : Streams) (held : Option (List ℕ)) (names : List Word) (error : AskError)
    → error ≢ Relay relay.Output → FailsToShow text is_json before after held held names error
nothing_written text is_json before after held names (Relay relay.Output) other = absurd (other refl)
nothing_written text is_json before after held names error other = refl

-- nothing of it is written
pub shows_none : {Word T : Type 0} (text : Word → List ℕ) (is_json : Bool) (before after : Streams) (held : Option (List ℕ)) (names : List Word) (result : Result T Stop) (stop : Stop)
    → IsErrAnd result (λ it. it ≡ stop) → IsOwnFault stop → IfErr result (IsFaultOf (FailsToShow text is_json before after held held names))
shows_none text is_json before after held names (Ok done) stop is own = tt
shows_none text is_json before after held names (Err other) stop is own = (own.0, is ∙ own.1, nothing_written text is_json before after held names own.0 own.2)

-- ---- names by their texts

-- one more of them
pub words_more : {A B : Type 0} (text : A → List ℕ) (bytes : B → List ℕ) (names : List B) (at : ℕ) (name : B) (words grown : List A) (word : A)
    → at < length names → map text words ≡ map bytes (take at names) → grown ≡ words ++ word ∷ [] → text word ≡ bytes (get_or names at name)
    → map text grown ≡ map bytes (take (at + 1) names)
words_more text bytes names at name words grown word within so_far more same =
    ap (map text) more ∙ map_more text words word ∙ ap (λ it. it ++ text word ∷ []) so_far ∙ ap (λ it. map bytes (take at names) ++ it ∷ []) same
    ∙ sym (ap (map bytes) (take_more names at name within) ∙ map_more bytes (take at names) (get_or names at name))

described_map : {Word : Type 0} (text : Word → List ℕ) (before after : Streams) (names : List Word) (findings : List Finding)
    → AreDescribed text before after names findings → AreDescribed (λ name. name) before after (map text names) findings
described_map text before after [] [] h = h
described_map text before after [] (f ∷ findings) h = h
described_map text before after (n ∷ names) [] h = h
described_map text before after (n ∷ names) (f ∷ findings) h = (h.0, h.1, described_map text h.0 after names findings h.2)

width_map : {Word : Type 0} (text : Word → List ℕ) (names : List Word) → width_of text names ≡ width_of (λ name. name) (map text names)
width_map text [] = refl
width_map text (n ∷ names) = ap (max (length (text n))) (width_map text names)

rows_map : {Word : Type 0} (text : Word → List ℕ) (is_json : Bool) (width : ℕ) (names : List Word) (findings : List Finding)
    → rows_of text is_json width names findings ≡ rows_of (λ name. name) is_json width (map text names) findings
rows_map text is_json width [] findings = refl
rows_map text is_json width (n ∷ names) [] = refl
rows_map text is_json width (n ∷ names) (f ∷ findings) = ap (λ rows. row_by is_json width (text n) f ++ rows) (rows_map text is_json width names findings)

top_map : {Word : Type 0} (text : Word → List ℕ) (is_json : Bool) (names : List Word) → top_of text is_json names ≡ top_of (λ name. name) is_json (map text names)
top_map text true names = refl
top_map text false [] = refl
top_map text false (n ∷ names) = ap head_of (width_map text (n ∷ names))

map_of_table : {Word : Type 0} (text : Word → List ℕ) (is_json : Bool) (names : List Word) (findings : List Finding)
    → table_of text is_json names findings ≡ table_of (λ name. name) is_json (map text names) findings
map_of_table text is_json names findings =
    ap (λ top. top ++ rows_of text is_json (width_of text names) names findings) (top_map text is_json names)
    ∙ ap (λ w. top_of (λ name. name) is_json (map text names) ++ rows_of text is_json w names findings) (width_map text names)
    ∙ ap (λ rows. top_of (λ name. name) is_json (map text names) ++ rows) (rows_map text is_json (width_of (λ name. name) (map text names)) names findings)

pub table_map : {Word : Type 0} (text : Word → List ℕ) (is_json : Bool) (before after : Streams) (names : List Word) (table : List ℕ) (outcome : Outcome)
    → IsTable text is_json before after names table outcome → IsTable (λ name. name) is_json before after (map text names) table outcome
table_map text is_json before after names table outcome h = record {
  findings = h.findings;
  described = described_map text before after names h.findings h.described;
  shown = h.shown ∙ map_of_table text is_json names h.findings;
  went = h.went;
}

-- ---- how a table isn't shown

pub not_shown : {Word : Type 0} (text : Word → List ℕ) (is_json : Bool) (before after : Streams) (held holds : Option (List ℕ)) (names : List Word) (error : AskError)
    → error ≢ Relay relay.Output → holds ≡ held → FailsToShow text is_json before after held holds names error
not_shown text is_json before after held holds names (Relay relay.Output) other same = absurd (other refl)
not_shown text is_json before after held holds names error other same = same

-- ---- the width of the names so far

pub width_step : {Word : Type 0} (text : Word → List ℕ) (names : List Word) (at : ℕ) (name : Word) (width wider : ℕ)
    → at < length names → width ≡ width_of text (take at names) → wider ≡ max width (length (text (get_or names at name))) → wider ≡ width_of text (take (at + 1) names)
width_step text names at name width wider within so_far more =
    more ∙ ap (λ w. max w (length (text (get_or names at name)))) so_far ∙ sym (width_more text (take at names) (get_or names at name))
    ∙ ap (width_of text) (sym (take_more names at name within))

-- ---- the table of all names

abbrev is_output : AskError → Bool
is_output (Relay relay.Output) = true
is_output error = false

-- want of memory is no fault of the output
pub memory_is_own : IsOwnFault (Fault (Relay relay.Memory))
memory_is_own = (Relay relay.Memory, refl, λ same. false≢true (ap is_output same))

pub own_memory : {T : Type 0} (result : Result T Stop) → IsErrAnd result (λ it. it ≡ Fault (Relay relay.Memory)) → IfErr result IsOwnFault
own_memory (Ok it) is = tt
own_memory (Err stop) is = subst IsOwnFault (sym is) memory_is_own

all_not_shown : (is_json : Bool) (before after : Streams) (held : Option (List ℕ)) (error : AskError) → error ≢ Relay relay.Output → FailsToShowAll is_json before after held held error
all_not_shown is_json before after held (Relay relay.Output) other = absurd (other refl)
all_not_shown is_json before after held error other = refl

own_stop : (is_json : Bool) (before after : Streams) (held : Option (List ℕ)) (stop : Stop) → IsOwnStop stop → IsRefusal stop (held ≡ held) ⊎ IsFaultOf (FailsToShowAll is_json before after held held) stop
own_stop is_json before after held stop own = elim own [
  | inl fault ↦ inr (fault.0, fault.1, all_not_shown is_json before after held fault.0 fault.2)
  | inr refused ↦ inl (refused, refl)
]

pub nothing_shown : {T : Type 0} (is_json : Bool) (before after : Streams) (held : Option (List ℕ)) (result : Result T Stop) (stop : Stop) → IsErrAnd result (λ it. it ≡ stop) → IsOwnStop stop
    → IfErr result (λ it. IsRefusal it (held ≡ held) ⊎ IsFaultOf (FailsToShowAll is_json before after held held) it)
nothing_shown is_json before after held (Ok it) stop is own = tt
nothing_shown is_json before after held (Err other) stop is own = own_stop is_json before after held other (subst IsOwnStop (sym is) own)

-- the words are the names that were listed
listed_words : (before after : Streams) (words names : List (List ℕ)) → words ≡ names → ListsNames before after names → ListsNames before after words
listed_words before after words names same listed = subst (ListsNames before after) (sym same) listed

pub shows_all : {Word : Type 0} (text : Word → List ℕ) (is_json : Bool) (before between after : Streams) (held holds : Option (List ℕ)) (words : List Word) (names : List (List ℕ)) (result : Result Outcome Stop)
    → map text words ≡ names → ListsNames before between names → IfOk result (ShowsTable text is_json between after held holds words) → IfOk result (ShowsAll is_json before after held holds)
shows_all text is_json before between after held holds words names (Ok outcome) same listed h = inl (
  map text words,
  between,
  listed_words before between (map text words) names same listed,
  record { table = h.table; written = h.written; is = table_map text is_json between after words h.table outcome h.is },
)
shows_all text is_json before between after held holds words names (Err stop) same listed h = tt

not_all_shown : {Word : Type 0} (text : Word → List ℕ) (is_json : Bool) (before between after : Streams) (held holds : Option (List ℕ)) (words : List Word) (error : AskError)
    → ListsNames before between (map text words) → FailsToShow text is_json between after held holds words error → FailsToShowAll is_json before after held holds error
not_all_shown text is_json before between after held holds words (Relay relay.Output) listed h = (
  map text words,
  between,
  listed,
  record { table = h.table; outcome = h.outcome; written = h.written; is = table_map text is_json between after words h.table h.outcome h.is },
)
not_all_shown text is_json before between after held holds words error listed h = h

pub fails_to_show_all : {Word : Type 0} (text : Word → List ℕ) (is_json : Bool) (before between after : Streams) (held holds : Option (List ℕ)) (words : List Word) (names : List (List ℕ)) (result : Result Outcome Stop)
    → map text words ≡ names → ListsNames before between names → IfErr result (IsFaultOf (FailsToShow text is_json between after held holds words))
    → IfErr result (λ stop. IsRefusal stop (holds ≡ held) ⊎ IsFaultOf (FailsToShowAll is_json before after held holds) stop)
fails_to_show_all text is_json before between after held holds words names (Ok outcome) same listed h = tt
fails_to_show_all text is_json before between after held holds words names (Err stop) same listed h =
    inr (h.0, h.1, not_all_shown text is_json before between after held holds words h.0 (listed_words before between (map text words) names same listed) h.2)

-- it stops as what was called did
pub stops_so : {T : Type 0} (holds : Stop → Type 0) (result : Result T Stop) (stop : Stop) → IsErrAnd result (λ it. it ≡ stop) → holds stop → IfErr result holds
stops_so holds (Ok it) stop is h = tt
stops_so holds (Err other) stop is h = subst holds (sym is) h

pub stops_by_fault : {T : Type 0} (result : Result T Stop) (stop : Stop) → IsErrAnd result (λ it. it ≡ stop) → IsOwnFault stop → IfErr result IsOwnStop
stops_by_fault result stop is own = stops_so IsOwnStop result stop is (inl own)

pub memory_stops : {T : Type 0} (result : Result T Stop) → IsErrAnd result (λ it. it ≡ Fault (Relay relay.Memory)) → IfErr result IsOwnStop
memory_stops (Ok it) is = tt
memory_stops (Err stop) is = inl (subst IsOwnFault (sym is) memory_is_own)

-- What `wait` does.
use Rattle.std.specs.Prelude.{◌≡◌, ◌⊎◌, ⊤, ℕ, ◌+◌, ◌<◌, ◌≤◌, min, true, false, Bool, List, [], ◌∷◌, length, codes, Option, None, Some, Result, Ok, Err}
use Rattle.hub_options.specs.declared.asking.Wish.{Wish}
use Rattle.hub_ask.specs.Asking.{IsAnswered, IsBrokenOff}
use Rattle.hub_ask.specs.Lines.{joined}
use Rattle.hub_ask.specs.Outcomes.{TellsOfWait, status_of}
use Rattle.hub_ask.specs.Waiting.{Asking, AsksAbout, FailsToEnd, IsEnded, reply_of, wait_words}
use Rattle.hub_ask.specs.declared.client.Client.{Client}
use Rattle.std.specs.List.{list_all}
use Rattle.hub_protocol.specs.declared.parsing.TheConstants.{LONGEST_LINE}
use Rattle.hub_requests.specs.Names.{is_name}
use Rattle.hub_requests.specs.declared.bounds.TheConstants.{MOST_SERVICES, MOST_TURNS}
use Rattle.hub_ask.specs.declared.fault.AskError.{AskError}
use Rattle.hub_ask.specs.declared.fault.AskError.TheVariants as ask
use Rattle.hub_ask.specs.declared.fault.AskError.TheVariants.{NoAnswer}
use Rattle.hub_ask.specs.Streams.{Going}
use Rattle.hub_ask.specs.declared.outcome.Outcome.{Outcome}
use Rattle.hub_ask.specs.declared.waiting.Delay.{Delay}
use Rattle.hub_ask.specs.declared.waiting.Delay.TheVariants.{Missing, Late}
use Rattle.hub_ask.specs.declared.waiting.TheConstants.{GRACE}
use Rattle.hub_client.specs.Passing.{has_lf}
use Rattle.hub_requests.specs.Texts.{text_of}
use Rattle.hub_commands.specs.Asking.{Ends}
use Rattle.hub_commands.specs.Missing.{AsksNames}
use Rattle.hub_dialing.specs.Dialing.{Dialing, OverOne}
use Rattle.hub_endings.specs.Words.{IsLimit}
use Rattle.hub_endings.specs.declared.ending.BadWords.{BadWords}
use Rattle.hub_endings.specs.declared.ending.BadWords.TheVariants as bad
use Rattle.hub_endings.specs.declared.ending.Ending.{Ending}
use Rattle.hub_endings.specs.declared.ending.Ending.TheVariants.{Refused, Stopped, Unreached, Failed}
use Rattle.hub_endings.specs.declared.fault.Fault.TheVariants.{Memory, Reach, Ask}
use Rattle.hub_endings.specs.declared.fault.Fault.{Fault}
use Rattle.hub_endings.specs.Reaching.{is_absence}

-- ---- its words

-- a wait for this isn't the same as two of them one after the other
abbrev pub IsRestart : (want : List ℕ) → Type 0
IsRestart want = (want ≡ codes "restarted") ⊎ (want ≡ codes "restarted-ready")

-- a limit is longer than one wait may be
abbrev pub IsLong : Option ℕ → Type 0
IsLong None = ⊥
IsLong (Some millis) = MOST_TURNS < millis

-- the turns of the first line
abbrev pub turns_by : Option ℕ → ℕ
turns_by None = MOST_TURNS
turns_by (Some millis) = min millis MOST_TURNS

-- How a wait with this limit begins: with a line of so many turns. Only a wait for a restart may be too long, and is refused.
abbrev pub Begins : (want : List ℕ) → (limit : Option ℕ) → Result ℕ Ending → Type 0
Begins want limit (Ok turns) = (turns ≡ turns_by limit) × (IsRestart want → IsLong limit → ⊥)
Begins want limit (Err ending) = IsRestart want × IsLong limit × (ending ≡ Refused bad.Restart)

-- texts that are all names, so many of them, and the line of so many bytes that has them: those of one wait
abbrev pub AreOneWait : (are_names : Bool) → (count size : ℕ) → Type 0
AreOneWait are_names count size = (are_names ≡ true) × (count ≤ MOST_SERVICES) × (size ≤ LONGEST_LINE)

-- they are refused, since one is no name, or else since they are too many
abbrev pub RefusesNames : (are_names : Bool) → (count size : ℕ) → BadWords → Type 0
RefusesNames are_names count size bad.NotName = are_names ≡ false
RefusesNames are_names count size bad.Many = (are_names ≡ true) × ((MOST_SERVICES < count) ⊎ (LONGEST_LINE < size))
RefusesNames are_names count size other = ⊥

abbrev pub AreJudged : {T : Type 0} → (are_names : Bool) → (count size : ℕ) → Result T Ending → Type 0
AreJudged are_names count size (Ok it) = AreOneWait are_names count size
AreJudged are_names count size (Err (Refused words)) = RefusesNames are_names count size words
AreJudged are_names count size (Err other) = ⊥

-- ---- one wait

-- what is waited for: the socket of the hub, the line for so many turns, what may be asked after it, whether all texts are names, how many
-- there are, and how
pub record Wishing : Type 1 where
  pub socket : List ℕ
  pub want : List ℕ
  pub line : (turns : ℕ) → List ℕ
  pub asks : Asking
  pub are_names : Bool
  pub services : ℕ
  pub is_now : Bool
  pub is_quiet : Bool

abbrev pub wishing : (socket : List ℕ) → Wish → Wishing
wishing socket wish = record {
  socket = socket;
  want = wish.want.now;
  line = λ turns. wait_words wish.span.now wish.want.now turns (joined (λ name. name.now) wish.names.items);
  asks = AsksAbout wish.want.now (λ name. name.now) wish.names.items;
  are_names = list_all (λ name. is_name name.now) wish.names.items;
  services = length wish.names.items;
  is_now = wish.is_now;
  is_quiet = wish.is_quiet;
}

-- ---- one try

-- over a connection that was made to this socket and for so many milliseconds, the line was sent, and this reply came
pub record IsReplied {D SR SW : Type 0} (d : Dialing D SR SW) (old new : D) (socket : List ℕ) (millis : ℕ) (line : List ℕ) (client : Client SR SW) (reply : List ℕ) : Type 0 where
  pub receive : SR
  pub send : SW
  pub reached : d.reaches old socket millis (Ok (receive, send)) new
  pub answered : IsAnswered (d.contents send) (d.contents client.sender) (d.remaining receive) (d.remaining client.receiver) line reply

-- A try: a reply came, or there was a fault; `text` gives the bytes of a reply.
abbrev pub IsTried : {D SR SW T : Type 0} → Dialing D SR SW → (old new : D) → (socket : List ℕ) → (millis : ℕ) → (line : List ℕ) → (text : T → List ℕ)
    → Result (Client SR SW × T) Fault → Type 0
IsTried d old new socket millis line text (Ok it) = IsReplied d old new socket millis line it.0 (text it.1)
IsTried d old new socket millis line text (Err fault) = d.reaches old socket millis (Err fault) new
    ⊎ ((error : AskError) × (fault ≡ Ask error) × OverOne d old new socket millis (λ sent sends had has. IsBrokenOff sent sends had has line))

-- a line of so many turns is only a part of a wait: it is one of the longest, and isn't for a restart
abbrev pub IsPart : (want : List ℕ) → (turns : ℕ) → Type 0
IsPart want turns = (turns ≡ MOST_TURNS) × (IsRestart want → ⊥)

-- A name that isn't made is waited for. After `late` a wait goes on only if the line was a part of it.
abbrev pub MayDelay : (want : List ℕ) → (turns : ℕ) → Delay → Type 0
MayDelay want turns Missing = ⊤
MayDelay want turns Late = IsPart want turns

-- the reply isn't the end of a wait for this whose line had so many turns
abbrev pub Delays : (want : List ℕ) → (turns : ℕ) → (reply : List ℕ) → Type 0
Delays want turns reply = (delay : Delay) × (reply ≡ text_of (reply_of delay)) × MayDelay want turns delay

-- A fault that isn't the end of a wait: no hub is there yet, or it has no room. Or it didn't answer a line that was a part of the wait.
abbrev pub IsPassing : (want : List ℕ) → (turns : ℕ) → Fault → Type 0
IsPassing want turns (Reach why) = is_absence why ≡ true
IsPassing want turns (Ask NoAnswer) = IsPart want turns
IsPassing want turns other = ⊥

-- the wait goes on after this
abbrev pub GoesOn : {C T : Type 0} → (is_now : Bool) → (want : List ℕ) → (turns : ℕ) → (text : T → List ℕ) → Result (C × T) Fault → Type 0
GoesOn is_now want turns text (Ok it) = (is_now ≡ false) × Delays want turns (text it.1)
GoesOn is_now want turns text (Err fault) = (is_now ≡ false) × IsPassing want turns fault

-- between two states of a try at most the names of the hub were asked for
abbrev pub AsksAfterTry : {SR SW T : Type 0} → (contents : SW → Option (List ℕ)) → (old new : Result (Client SR SW × T) Fault) → Type 0
AsksAfterTry contents (Ok it) (Ok later) = AsksNames (contents it.0.sender) (contents later.0.sender)
AsksAfterTry contents (Err fault) new = ⊤
AsksAfterTry contents old new = ⊥

-- ---- the tries

-- A line with so many turns was sent, its reply isn't the end of the wait, and then at most the names of the hub were asked for. Or no
-- reply came, and the line was a part of the wait.
abbrev pub Leaves : Wishing → (turns : ℕ) → Going
Leaves w turns sent sends had has = ((reply : List ℕ) × (sends' has' : Option (List ℕ)) × IsAnswered sent sends' had has' (w.line turns) reply
    × Delays w.want turns reply × AsksNames sends' sends)
    ⊎ (IsPart w.want turns × IsBrokenOff sent sends had has (w.line turns))

-- A try with so many turns that came to nothing yet, since the wait isn't to end at once: no hub was there, or the line left it open.
abbrev pub PutsOff : {D SR SW : Type 0} → Dialing D SR SW → Wishing → (turns : ℕ) → (old new : D) → Type 0
PutsOff d w turns old new = (w.is_now ≡ false)
    × (((fault : Fault) × IsPassing w.want turns fault × d.reaches old w.socket (turns + GRACE) (Err fault) new)
    ⊎ OverOne d old new w.socket (turns + GRACE) (Leaves w turns))

-- the first line has all turns, and each other one no more than the one before it
abbrev pub IsNext : (first : ℕ) → (before : List ℕ) → (turns : ℕ) → Type 0
IsNext first [] turns = turns ≡ first
IsNext first (last ∷ before) turns = turns ≤ last

-- Tries that came to nothing were made one after the other; `before` has their turns, the last one first.
abbrev pub AreTried : {D SR SW : Type 0} → Dialing D SR SW → Wishing → (first : ℕ) → (old : D) → (before : List ℕ) → (new : D) → Type 0
AreTried d w first old [] new = new ≡ old
AreTried {D} d w first old (turns ∷ before) new =
    (between : D) × AreTried d w first old before between × IsNext first before turns × PutsOff d w turns between new

-- Some tries came to nothing, and the next line has so many turns.
pub record IsAt {D SR SW : Type 0} (d : Dialing D SR SW) (w : Wishing) (first : ℕ) (old new : D) (turns : ℕ) : Type 0 where
  pub before : List ℕ
  pub tried : AreTried d w first old before new
  pub next : IsNext first before turns

-- ---- the last one

-- The reply was written, and at most these questions were asked. If nothing is to be written, nothing was, and nothing was asked.
abbrev pub EndsSo : (services : ℕ) → (is_quiet : Bool) → (sent sends had has held holds : Option (List ℕ)) → (reply : List ℕ) → Asking → Outcome → Type 0
EndsSo services false sent sends had has held holds reply asks outcome = IsEnded services sent sends had has held holds reply asks outcome
EndsSo services true sent sends had has held holds reply asks outcome = TellsOfWait services reply (Some outcome) × (sends ≡ sent) × (has ≡ had) × (holds ≡ held)

-- the reply tells no outcome, or couldn't be written
abbrev pub EndsInVain : (services : ℕ) → (is_quiet : Bool) → (held holds : Option (List ℕ)) → (reply : List ℕ) → AskError → Type 0
EndsInVain services false held holds reply error = FailsToEnd services held holds reply error
EndsInVain services true held holds reply error = (error ≡ ask.Unknown) × TellsOfWait services reply None × (holds ≡ held)

-- how a wait ended after this try; `text` gives the bytes of a reply
abbrev pub EndsTry : {SR SW T : Type 0} → (remaining : SR → Option (List ℕ)) → (contents : SW → Option (List ℕ)) → (services : ℕ) → (is_quiet : Bool) → Asking → (untouched : Type 0)
    → (held holds : Option (List ℕ)) → (text : T → List ℕ) → Result (Client SR SW × T) Fault → Result ℕ Ending → Type 0
EndsTry remaining contents services is_quiet asks untouched held holds text (Err fault) result = (result ≡ Err (Failed fault)) × untouched × (holds ≡ held)
EndsTry {SR} {SW} remaining contents services is_quiet asks untouched held holds text (Ok it) (Ok status) = (outcome : Outcome) × (status ≡ status_of outcome)
    × (later : Client SR SW) × EndsSo services is_quiet (contents it.0.sender) (contents later.sender) (remaining it.0.receiver) (remaining later.receiver) held holds (text it.1) asks outcome
EndsTry remaining contents services is_quiet asks untouched held holds text (Ok it) (Err (Failed fault)) = (error : AskError) × (fault ≡ Ask error) × EndsInVain services is_quiet held holds (text it.1) error
EndsTry remaining contents services is_quiet asks untouched held holds text (Ok it) other = ⊥

-- the last line was sent once, and so the wait ended: sends' and has' are the streams between the reply and the questions
pub record GoesSo (w : Wishing) (turns : ℕ) (sent sends had has held holds : Option (List ℕ)) (outcome : Outcome) : Type 0 where
  pub reply : List ℕ
  pub sends' : Option (List ℕ)
  pub has' : Option (List ℕ)
  pub answered : IsAnswered sent sends' had has' (w.line turns) reply
  pub ended : EndsSo w.services w.is_quiet sends' sends has' has held holds reply w.asks outcome

-- It went wrong: the last line was sent once at most, and no whole reply came, or one that tells no outcome, or couldn't be written.
abbrev pub GoesWrong : (w : Wishing) → (turns : ℕ) → (sent sends had has held holds : Option (List ℕ)) → AskError → Type 0
GoesWrong w turns sent sends had has held holds error = (IsBrokenOff sent sends had has (w.line turns) × (holds ≡ held))
    ⊎ ((reply : List ℕ) × IsAnswered sent sends had has (w.line turns) reply × EndsInVain w.services w.is_quiet held holds reply error)

-- ---- the whole command

-- no words are refused after the first try
abbrev pub RefusesNone : BadWords → Type 0
RefusesNone _ = ⊥

-- A wait of so many turns at first. Over each connection but the last, the line was sent once, and the reply isn't its end. Only the last
-- reply is written, and has the status.
pub record WaitsOn {D SR SW : Type 0} (d : Dialing D SR SW) (w : Wishing) (first : ℕ) (old new : D) (untouched : Type 0) (held holds : Option (List ℕ)) (result : Result ℕ Ending) : Type 0 where
  pub between : D
  pub turns : ℕ
  pub at : IsAt d w first old between turns
  pub last : Ends d between new w.socket (turns + GRACE) (w.line turns) RefusesNone untouched
      (λ outcome sent sends had has. GoesSo w turns sent sends had has held holds outcome)
      (λ error sent sends had has. GoesWrong w turns sent sends had has held holds error) result

-- Before there is a first line, the words are refused or memory runs out. Then no connection is made, and nothing is touched.
abbrev pub EndsBefore : (w : Wishing) → (limit : Option ℕ) → Result ℕ Ending → Type 0
EndsBefore w limit (Ok status) = ⊥
EndsBefore w limit (Err (Refused words)) = (IsRestart w.want × IsLong limit × (words ≡ bad.Restart))
    ⊎ (((has_lf (w.line (turns_by limit)) ≡ true) × (words ≡ bad.Name))
    ⊎ RefusesNames w.are_names w.services (length (w.line (turns_by limit))) words)
EndsBefore w limit (Err (Stopped report)) = ⊥
EndsBefore w limit (Err (Unreached hub)) = ⊥
EndsBefore w limit (Err (Failed fault)) = fault ≡ Memory

-- a wait with this limit
abbrev pub WaitsFor : {D SR SW : Type 0} → Dialing D SR SW → Wishing → (limit : Option ℕ) → (old new : D) → (untouched : Type 0) → (held holds : Option (List ℕ))
    → (nothing : Type 0) → Result ℕ Ending → Type 0
WaitsFor d w limit old new untouched held holds nothing result =
    (EndsBefore w limit result × (new ≡ old) × nothing)
    ⊎ (AreOneWait w.are_names w.services (length (w.line (turns_by limit))) × WaitsOn d w (turns_by limit) old new untouched held holds result)

-- the command ended so by what came of its duration
abbrev pub EndsBy : {D SR SW : Type 0} → Dialing D SR SW → Wishing → (old new : D) → (untouched : Type 0) → (held holds : Option (List ℕ))
    → (nothing : Type 0) → Result ℕ Ending → (limit : Result (Option ℕ) Ending) → Type 0
EndsBy d w old new untouched held holds nothing result (Ok limit) = WaitsFor d w limit old new untouched held holds nothing result
EndsBy d w old new untouched held holds nothing result (Err ending) = (result ≡ Err ending) × (new ≡ old) × nothing

-- `wait` as it is told: a duration that isn't one is refused; text gives its bytes
abbrev pub WaitsAsTold : {D SR SW T : Type 0} → Dialing D SR SW → Wishing → (text : T → List ℕ) → (timeout : Option T) → (old new : D) → (untouched : Type 0)
    → (held holds : Option (List ℕ)) → (nothing : Type 0) → Result ℕ Ending → Type 0
WaitsAsTold d w text timeout old new untouched held holds nothing result =
    (limit : Result (Option ℕ) Ending) × IsLimit text timeout limit × EndsBy d w old new untouched held holds nothing result limit

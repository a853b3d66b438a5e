-- What `hold` does.
use Rattle.std.specs.Prelude.{◌≡◌, ◌≢◌, ◌⊎◌, ℕ, List, Option, None, Some, Result}
use Rattle.std.specs.Io.KnownBytes.{Consumes, IsAtEnd}
use Rattle.hub_client.specs.declared.fault.RelayError.TheVariants as relay
use Rattle.hub_ask.specs.declared.fault.AskError.{AskError}
use Rattle.hub_ask.specs.declared.fault.AskError.TheVariants as ask
use Rattle.hub_ask.specs.declared.outcome.Outcome.{Outcome}
use Rattle.hub_ask.specs.declared.outcome.Outcome.TheVariants.{Done, Refused}
use Rattle.hub_io.specs.Telling.{Rises}
use Rattle.hub_letters.specs.declared.state.State.{State}
use Rattle.hub_ask.specs.Streams.{Streams, IsReplied}
use Rattle.hub_requests.specs.declared.request.Request.{Request}
use Rattle.hub_requests.specs.declared.request.Request.TheVariants as request
use Rattle.hub_requests.specs.declared.reply.Reply.TheVariants as reply
use Rattle.hub_requests.specs.declared.reply.Refusal.{Refusal}
use Rattle.hub_requests.specs.declared.will.Will.{Will}
use Rattle.hub_io.specs.Counted.{Reading, Writing}
use Rattle.hub_commands.specs.Asked.{DoesWith, FailsOnce, IsRefused}
use Rattle.hub_dialing.specs.Dialing.{Dialing}
use Rattle.hub_commands.specs.Making.{RepliesToMake}
use Rattle.hub_commands.specs.Telling.{FailsToTell, IsTold, RefusesName}
use Rattle.hub_endings.specs.declared.ending.Ending.{Ending}

-- ---- the will

-- It was sent once. It was carried out, which isn't noted, or it was refused, of which there is one note.
abbrev pub IsLeftSo : (before after : Streams) → (will : Request) → (name : List ℕ) → Outcome → Type 0
IsLeftSo before after will name Done = IsReplied before after will reply.Done
IsLeftSo before after will name Refused = (refusal : Refusal) × IsRefused before after will name refusal
IsLeftSo before after will name other = ⊥

-- It was sent at most once, and nothing was noted.
abbrev pub FailsToLeave : (before after : Streams) → (will : Request) → AskError → Type 0
FailsToLeave before after will error = FailsOnce RepliesToMake before after will error

-- ---- where the service is

-- the request that says so, if that is to be said
abbrev pub request_of : Option State → (name : List ℕ) → Option Request
request_of None name = None
request_of (Some state) name = Some (request.Tell name state)

-- It was told, or nothing was to be said, and nothing was sent.
abbrev pub IsSaid : (before after : Streams) → (told : Option Request) → (name : List ℕ) → Outcome → Type 0
IsSaid before after None name outcome = (outcome ≡ Done) × (after ≡ before)
IsSaid before after (Some asked) name outcome = IsTold before after asked name outcome

-- It was sent at most once, and nothing was noted.
abbrev pub FailsToSay : (before after : Streams) → (told : Option Request) → AskError → Type 0
FailsToSay before after None error = ⊥
FailsToSay before after (Some asked) error = FailsToTell before after asked error

-- ---- both

-- The will was left, and then the service was told. Or the will was refused, and nothing else was sent.
abbrev pub IsAsked : (before after : Streams) → (will : Request) → (told : Option Request) → (name : List ℕ) → Outcome → Type 0
IsAsked before after will told name outcome =
    ((outcome ≢ Done) × IsLeftSo before after will name outcome)
    ⊎ ((between : Streams) × IsReplied before between will reply.Done × IsSaid between after told name outcome)

-- Each was sent at most once, the will first, and nothing was noted.
abbrev pub FailsToAskEach : (before after : Streams) → (will : Request) → (told : Option Request) → AskError → Type 0
FailsToAskEach before after will told error = FailsToLeave before after will error
    ⊎ ((between : Streams) × IsReplied before between will reply.Done × FailsToSay between after told error)

-- ---- the input

-- All of it was read, and no read failed.
abbrev pub IsReadOut : (had has : Option (List ℕ)) (faults failed : Option ℕ) → Type 0
IsReadOut had has faults failed = ((read : List ℕ) × Consumes had has read) × IsAtEnd has × Rises faults failed 0

-- A front of it was read. Then the hub ended the connection, or a read failed.
abbrev pub FailsToRead : (had has : Option (List ℕ)) (faults failed : Option ℕ) → AskError → Type 0
FailsToRead had has faults failed error = ((read : List ℕ) × Consumes had has read)
    × (((error ≡ ask.Relay relay.Ended) × Rises faults failed 0) ⊎ ((error ≡ ask.Relay relay.Input) × Rises faults failed 1))

-- The input after the requests had this outcome: it was read to its end, or nothing of it was read.
abbrev pub IsHeld : {R : Type 0} → Reading R → (input rest : R) → Outcome → Type 0
IsHeld r input rest Done = IsReadOut (r.remaining input) (r.remaining rest) (r.faults input) (r.faults rest)
IsHeld r input rest other = rest ≡ input

-- ---- the whole command

-- the notes of a command beside its input
abbrev pub beside : {F R : Type 0} → Writing F → Writing (F × R)
beside n = record { contents = λ both. n.contents both.0; faults = λ both. n.faults both.0 }

-- `hold` of this name: until there is a connection, nothing is noted, and nothing of the input is read
abbrev pub HoldsAsTold : {D SR SW F R : Type 0} → Dialing D SR SW → (old new : D) → (socket : List ℕ) → Writing F → (notes note : F)
    → Reading R → (input rest : R) → (name : List ℕ) → Will → Option State → Result ℕ Ending → Type 0
HoldsAsTold d old new socket n notes note r input rest name will told result = DoesWith d old new socket (beside n) (notes, input) (note, rest) (RefusesName name)
    (λ outcome before after. IsAsked before after (request.Will name will) (request_of told name) name outcome × IsHeld r input rest outcome)
    (λ error before after.
    (FailsToAskEach before after (request.Will name will) (request_of told name) error × (rest ≡ input))
    ⊎ (IsAsked before after (request.Will name will) (request_of told name) name Done
    × FailsToRead (r.remaining input) (r.remaining rest) (r.faults input) (r.faults rest) error)) result

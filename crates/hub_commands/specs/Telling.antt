-- What `tell` does.
use Rattle.std.specs.Prelude.{◌≡◌, ℕ, List, ⊤, Option, None, Some, Result, Ok, Err, false}
use Rattle.hub_ask.specs.declared.fault.AskError.{AskError}
use Rattle.hub_ask.specs.declared.outcome.Outcome.{Outcome}
use Rattle.hub_ask.specs.declared.outcome.Outcome.TheVariants.{Done, Refused}
use Rattle.hub_letters.specs.declared.state.State.{State}
use Rattle.hub_ask.specs.Streams.{Streams, IsReplied}
use Rattle.hub_protocol.specs.declared.replies.BorrowedReply.{BorrowedReply}
use Rattle.hub_protocol.specs.declared.replies.BorrowedReply.TheVariants as shown
use Rattle.hub_requests.specs.Names.{is_name}
use Rattle.hub_requests.specs.declared.request.Request.{Request}
use Rattle.hub_requests.specs.declared.request.Request.TheVariants as request
use Rattle.hub_requests.specs.declared.reply.Reply.{Reply}
use Rattle.hub_requests.specs.declared.reply.Reply.TheVariants as reply
use Rattle.hub_requests.specs.declared.reply.Refusal.{Refusal}
use Rattle.hub_io.specs.Counted.{Writing}
use Rattle.hub_commands.specs.Asked.{DoesWith, FailsOnce, IsRefused}
use Rattle.hub_dialing.specs.Dialing.{Dialing}
use Rattle.hub_endings.specs.declared.ending.BadWords.{BadWords}
use Rattle.hub_endings.specs.declared.ending.BadWords.TheVariants as bad
use Rattle.hub_endings.specs.declared.ending.Ending.{Ending}

-- what a reply says of a `tell`, as the code has it
abbrev pub verdict_of : BorrowedReply → Option (Result (Unit {0}) Refusal)
verdict_of (shown.Number n) = Some (Ok tt)
verdict_of (shown.No refusal) = Some (Err refusal)
verdict_of other = None

-- the replies of a hub to a `tell`
abbrev pub RepliesToTell : Reply → Type 0
RepliesToTell (reply.Number n) = ⊤
RepliesToTell (reply.No refusal) = ⊤
RepliesToTell other = ⊥

-- The request was sent once. It was carried out, which isn't noted, or it was refused, of which there is one note.
abbrev pub IsTold : (before after : Streams) → Request → (name : List ℕ) → Outcome → Type 0
IsTold before after asked name Done = (number : ℕ) × IsReplied before after asked (reply.Number number)
IsTold before after asked name Refused = (refusal : Refusal) × IsRefused before after asked name refusal
IsTold before after asked name other = ⊥

-- It was sent at most once, and nothing was noted.
abbrev pub FailsToTell : (before after : Streams) → Request → AskError → Type 0
FailsToTell before after asked error = FailsOnce RepliesToTell before after asked error

-- only a text that is no name is refused
abbrev pub RefusesName : (name : List ℕ) → BadWords → Type 0
RefusesName name bad.NotName = is_name name ≡ false
RefusesName name other = ⊥

-- `tell` of this name and this state
abbrev pub TellsAsTold : {D SR SW F : Type 0} → Dialing D SR SW → (old new : D) → (socket : List ℕ) → Writing F → (notes note : F)
    → (name : List ℕ) → State → Result ℕ Ending → Type 0
TellsAsTold d old new socket n notes note name state result = DoesWith d old new socket n notes note (RefusesName name)
    (λ outcome before after. IsTold before after (request.Tell name state) name outcome)
    (λ error before after. FailsToTell before after (request.Tell name state) error) result

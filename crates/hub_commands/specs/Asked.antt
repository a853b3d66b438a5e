-- Requests of which a person is told only what is refused.
use Rattle.std.specs.Prelude.{◌≡◌, ◌⊎◌, ℕ, List, Bool, Result, Ok, Err}
use Rattle.hub_client.specs.declared.fault.RelayError.TheVariants as relay
use Rattle.hub_ask.specs.Asking.{FailsToAsk}
use Rattle.hub_ask.specs.Outcomes.{status_of}
use Rattle.hub_ask.specs.declared.exchanging.TheConstants.{ANSWER}
use Rattle.hub_ask.specs.declared.fault.AskError.{AskError}
use Rattle.hub_ask.specs.declared.fault.AskError.TheVariants as ask
use Rattle.hub_ask.specs.declared.outcome.Outcome.{Outcome}
use Rattle.hub_ask.specs.Streams.{Streams, IsNoted, IsReplied, note_of, Told}
use Rattle.hub_protocol.specs.Spelling.{form_of, spelling}
use Rattle.hub_requests.specs.declared.request.Request.{Request}
use Rattle.hub_requests.specs.declared.reply.Reply.{Reply}
use Rattle.hub_requests.specs.declared.reply.Reply.TheVariants as reply
use Rattle.hub_requests.specs.declared.reply.Refusal.{Refusal}
use Rattle.hub_io.specs.Counted.{Writing}
use Rattle.hub_dialing.specs.Dialing.{Dialing, OverOne}
use Rattle.hub_commands.specs.Notes.{reason_of}
use Rattle.hub_endings.specs.declared.ending.BadWords.{BadWords}
use Rattle.hub_endings.specs.declared.ending.Ending.{Ending}
use Rattle.hub_endings.specs.declared.ending.Ending.TheVariants.{Refused, Stopped, Unreached, Failed}
use Rattle.hub_endings.specs.declared.fault.Fault.TheVariants.{Memory, Ask}

-- ---- one request

-- The hub refused the request, and there is one note of it.
pub record IsRefused (before after : Streams) (request : Request) (name : List ℕ) (refusal : Refusal) : Type 0 where
  pub between : Streams
  pub replied : IsReplied before between request (reply.No refusal)
  pub told : IsNoted between after (note_of name (reason_of refusal))

-- No reply came: the request was sent at most once, and nothing was noted.
pub record HasNoAnswer (before after : Streams) (request : Request) (error : AskError) : Type 0 where
  pub broken : Bool
  pub failed : FailsToAsk before.sent after.sent before.had after.had (spelling (form_of request)) broken error
  pub noted : after.noted ≡ before.noted
  pub faults : after.faults ≡ before.faults

-- A reply came to the request, which was sent once. Memory ran out before a note of it, or the request has no such replies; `answers`
-- says which it has.
pub record IsLeft (answers : Reply → Type 0) (before after : Streams) (request : Request) (error : AskError) : Type 0 where
  pub reply : Reply
  pub replied : IsReplied before after request reply
  pub why : (error ≡ ask.Relay relay.Memory) ⊎ ((error ≡ ask.Unknown) × (answers reply → ⊥))

-- The request was sent at most once, and nothing was noted.
abbrev pub FailsOnce : (answers : Reply → Type 0) → (before after : Streams) → Request → AskError → Type 0
FailsOnce answers before after request error = HasNoAnswer before after request error ⊎ IsLeft answers before after request error

-- ---- the whole command

-- How a command ended that asks for something over one connection: with the status of its outcome, or with words that were refused, or
-- with a fault. Until there is a connection, nothing is noted.
abbrev pub DoesWith : {D SR SW F : Type 0} → Dialing D SR SW → (old new : D) → (socket : List ℕ) → Writing F → (notes note : F)
    → (refuses : BadWords → Type 0) → (goes : Outcome → (before after : Streams) → Type 0)
    → (fails : AskError → (before after : Streams) → Type 0) → Result ℕ Ending → Type 0
DoesWith d old new socket n notes note refuses goes fails (Ok status) =
    (outcome : Outcome) × (status ≡ status_of outcome) × OverOne d old new socket ANSWER (Told n notes note (goes outcome))
DoesWith d old new socket n notes note refuses goes fails (Err (Refused words)) = refuses words × (new ≡ old) × (note ≡ notes)
DoesWith d old new socket n notes note refuses goes fails (Err (Stopped report)) = ⊥
DoesWith d old new socket n notes note refuses goes fails (Err (Unreached hub)) = ⊥
DoesWith d old new socket n notes note refuses goes fails (Err (Failed fault)) =
    ((fault ≡ Memory) × (new ≡ old) × (note ≡ notes))
    ⊎ ((d.reaches old socket ANSWER (Err fault) new × (note ≡ notes))
    ⊎ ((error : AskError) × (fault ≡ Ask error) × OverOne d old new socket ANSWER (Told n notes note (fails error))))

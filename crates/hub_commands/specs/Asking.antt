-- What the subcommands do that send one request.
use Rattle.std.specs.Prelude.{◌≡◌, ◌⊎◌, ℕ, ◌+◌, ◌≤◌, true, false, List, Option, Result, Ok, Err}
use Rattle.hub_ask.specs.Asking.{HasNoReply, IsWritten}
use Rattle.hub_ask.specs.Outcomes.{Tells, outcome_of, status_of}
use Rattle.hub_requests.specs.declared.bounds.TheConstants.{MOST_TURNS}
use Rattle.hub_ask.specs.declared.exchanging.TheConstants.{ANSWER}
use Rattle.hub_ask.specs.declared.fault.AskError.{AskError}
use Rattle.hub_ask.specs.declared.outcome.Outcome.{Outcome}
use Rattle.hub_ask.specs.Streams.{Going}
use Rattle.hub_client.specs.Passing.{has_lf}
use Rattle.hub_dialing.specs.Dialing.{Dialing, OverOne}
use Rattle.hub_commands.specs.Hints.{Hints, refusal_of}
use Rattle.hub_endings.specs.declared.ending.BadWords.{BadWords}
use Rattle.hub_endings.specs.declared.ending.BadWords.TheVariants as bad
use Rattle.hub_endings.specs.declared.ending.Ending.{Ending}
use Rattle.hub_endings.specs.declared.ending.Ending.TheVariants.{Refused, Stopped, Unreached, Failed}
use Rattle.hub_endings.specs.declared.fault.Fault.{Fault}
use Rattle.hub_endings.specs.declared.fault.Fault.TheVariants.{Memory, Ask}
use Rattle.hub_protocol.specs.Replies.{IsOfHub}
use Rattle.hub_requests.specs.Texts.{text_of}
use Rattle.hub_requests.specs.declared.reply.Refusal.{Refusal}
use Rattle.hub_requests.specs.declared.reply.Reply.{Reply}
use Rattle.hub_io.specs.Counted.{Writing}

-- Why a request has no reply: memory ran out before it was made, or no connection came about, or it went wrong over the one
-- connection. Until there is a connection, nothing is touched.
abbrev pub Fails : {D SR SW : Type 0} → Dialing D SR SW → (old new : D) → (socket : List ℕ) → (millis : ℕ)
    → (line : List ℕ) → (untouched : Type 0) → (fails : AskError → Going) → Fault → Type 0
Fails d old new socket millis line untouched fails fault =
    ((fault ≡ Memory) × (new ≡ old) × untouched)
    ⊎ (((has_lf line ≡ false) × d.reaches old socket millis (Err fault) new × untouched)
    ⊎ ((has_lf line ≡ false) × (error : AskError) × (fault ≡ Ask error) × OverOne d old new socket millis (fails error)))

-- How a command ended that sends one request: with the status of its outcome, or with words that were refused, and then no
-- connection was made and nothing was touched, or with a fault.
abbrev pub Ends : {D SR SW : Type 0} → Dialing D SR SW → (old new : D) → (socket : List ℕ) → (millis : ℕ)
    → (line : List ℕ) → (refuses : BadWords → Type 0) → (untouched : Type 0) → (goes : Outcome → Going)
    → (fails : AskError → Going) → Result ℕ Ending → Type 0
Ends d old new socket millis line refuses untouched goes fails (Ok status) =
    (has_lf line ≡ false) × (outcome : Outcome) × (status ≡ status_of outcome) × OverOne d old new socket millis (goes outcome)
Ends d old new socket millis line refuses untouched goes fails (Err (Refused words)) = refuses words × (new ≡ old) × untouched
Ends d old new socket millis line refuses untouched goes fails (Err (Stopped report)) = ⊥
Ends d old new socket millis line refuses untouched goes fails (Err (Unreached hub)) = ⊥
Ends d old new socket millis line refuses untouched goes fails (Err (Failed fault)) =
    Fails d old new socket millis line untouched fails fault

-- `ask` refuses only a line with an LF in it
abbrev pub AskRefuses : (line : List ℕ) → BadWords → Type 0
AskRefuses line bad.Word = has_lf line ≡ true
AskRefuses line other = ⊥

-- The line was sent, and the reply of a hub came and was written. The request went as the reply says, and so much was noted as there is to
-- note if it is refused for this reason, or for none.
pub record IsAsked (sent sends had has held holds : Option (List ℕ)) (line : List ℕ) (hints : Option Refusal → Type 0) (outcome : Outcome) : Type 0 where
  pub reply : Reply
  pub of_hub : IsOfHub reply
  pub written : IsWritten sent sends had has held holds line (text_of reply)
  pub went : outcome ≡ outcome_of reply
  pub hinted : hints (refusal_of reply)

-- `ask` of this line. A hub has so many turns besides its ten seconds. Only a refusal is noted, by its hint.
abbrev pub Asks : {D SR SW F : Type 0} → Dialing D SR SW → (old new : D) → (socket line : List ℕ) → Writing F → (notes note : F)
    → (untouched : Type 0) → (held holds : Option (List ℕ)) → Result ℕ Ending → Type 0
Asks d old new socket line n notes note untouched held holds result = (turns : ℕ) × (turns ≤ MOST_TURNS) × Ends
    d old new socket (turns + ANSWER) line (AskRefuses line) (untouched × (note ≡ notes))
    (λ outcome sent sends had has. IsAsked sent sends had has held holds line (Hints n notes note line) outcome)
    (λ error sent sends had has. HasNoReply Tells sent sends had has held holds line error × (note ≡ notes)) result

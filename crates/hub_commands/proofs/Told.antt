-- How a `tell` ends.
use Rattle.std.proofs.Common.{◌≡◌, ℕ, List, None, Some, Result, Ok, Err, IsErrAnd, false, subst}
use Rattle.hub_ask.specs.Outcomes.{status_of}
use Rattle.hub_ask.specs.declared.client.Client.{Client}
use Rattle.hub_ask.specs.declared.exchanging.TheConstants.{ANSWER}
use Rattle.hub_ask.specs.declared.fault.AskError.{AskError}
use Rattle.hub_ask.specs.declared.outcome.Outcome.{Outcome}
use Rattle.hub_letters.specs.declared.state.State.{State}
use Rattle.hub_ask.specs.Streams.{streams}
use Rattle.hub_protocol.specs.declared.replies.BorrowedReply.{BorrowedReply}
use Rattle.hub_protocol.specs.declared.replies.BorrowedReply.TheVariants as shown
use Rattle.hub_requests.specs.declared.request.Request.TheVariants as request
use Rattle.hub_requests.specs.declared.reply.Refusal.{Refusal}
use Rattle.hub_requests.specs.declared.reply.Reply.{Reply}
use Rattle.hub_requests.specs.declared.reply.Reply.TheVariants as reply
use Rattle.hub_protocol.specs.Replies.{Shows}
use Rattle.hub_io.specs.Counted.{Writing}
use Rattle.hub_dialing.specs.Dialing.{Dialing}
use Rattle.hub_commands.specs.Telling.{FailsToTell, IsTold, RefusesName, RepliesToTell, TellsAsTold, verdict_of}
use Rattle.hub_endings.specs.declared.ending.Ending.{Ending}
use Rattle.hub_endings.specs.declared.ending.Ending.TheVariants.{Failed}
use Rattle.hub_endings.specs.declared.fault.Fault.TheVariants.{Ask}
use Rattle.hub_commands.proofs.Doing.{does_in_vain, does_so}

-- the reply that refuses
pub is_refusal : (read : BorrowedReply) (refusal : Refusal) → verdict_of read ≡ Some (Err refusal) → read ≡ shown.No refusal
is_refusal (shown.No other) refusal is = cc is
is_refusal (shown.Number n) refusal is = absurd (cc is)
is_refusal read refusal is = absurd (cc is)

-- no such reply is left without a verdict
pub none_to_tell : (read : BorrowedReply) (it : Reply) → verdict_of read ≡ None → Shows read it → RepliesToTell it → ⊥
none_to_tell (shown.Number n) it none shows h = cc none
none_to_tell (shown.No refusal) it none shows h = cc none
none_to_tell read (reply.Number n) none shows h = shows
none_to_tell read (reply.No refusal) none shows h = shows
none_to_tell read it none shows h = h

-- it has an outcome
pub tells_so : {D SR SW F : Type 0} (d : Dialing D SR SW) (old new : D) (socket : List ℕ) (n : Writing F) (notes note : F) (name named : List ℕ) (state : State)
    (status : ℕ) (outcome : Outcome) (receive : SR) (send : SW) (client later : Client SR SW) → named ≡ name → status ≡ status_of outcome
    → d.reaches old socket ANSWER (Ok (receive, send)) new → client ≡ record { receiver = receive; sender = send; is_broken = false }
    → IsTold (streams d.contents d.remaining n.contents n.faults client notes) (streams d.contents d.remaining n.contents n.faults later note) (request.Tell named state) name outcome
    → TellsAsTold d old new socket n notes note name state (Ok status)
tells_so d old new socket n notes note name named state status outcome receive send client later same is reached begun over =
    does_so d old new socket n notes note (RefusesName name) (λ outcome before after. IsTold before after (request.Tell name state) name outcome)
    (λ error before after. FailsToTell before after (request.Tell name state) error) status outcome receive send client later is reached begun
    (subst (λ it. IsTold (streams d.contents d.remaining n.contents n.faults client notes) (streams d.contents d.remaining n.contents n.faults later note) (request.Tell it state) name outcome) same over)

-- it fails over the connection
pub tells_in_vain : {D SR SW F : Type 0} (d : Dialing D SR SW) (old new : D) (socket : List ℕ) (n : Writing F) (notes note : F) (name named : List ℕ) (state : State)
    (result : Result ℕ Ending) (error : AskError) (receive : SR) (send : SW) (client later : Client SR SW) → named ≡ name → IsErrAnd result (λ it. it ≡ Failed (Ask error))
    → d.reaches old socket ANSWER (Ok (receive, send)) new → client ≡ record { receiver = receive; sender = send; is_broken = false }
    → FailsToTell (streams d.contents d.remaining n.contents n.faults client notes) (streams d.contents d.remaining n.contents n.faults later note) (request.Tell named state) error
    → TellsAsTold d old new socket n notes note name state result
tells_in_vain d old new socket n notes note name named state result error receive send client later same is reached begun over =
    does_in_vain d old new socket n notes note (RefusesName name) (λ outcome before after. IsTold before after (request.Tell name state) name outcome)
    (λ error before after. FailsToTell before after (request.Tell name state) error) result error receive send client later is reached begun
    (subst (λ it. FailsToTell (streams d.contents d.remaining n.contents n.faults client notes) (streams d.contents d.remaining n.contents n.faults later note) (request.Tell it state) error) same over)

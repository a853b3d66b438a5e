-- A request that came to nothing.
use Rattle.std.proofs.Common.{◌≡◌, ℕ, ◌+◌, ◌≤◌, List, Option, Result, Ok, Err, Some, IsErrAnd, false, inr, refl, sym, subst, ap}
use Rattle.hub_ask.specs.Asking.{HasNoReply, IsWritten}
use Rattle.hub_ask.specs.Outcomes.{Tells, outcome_of, status_of}
use Rattle.hub_requests.specs.declared.bounds.TheConstants.{MOST_TURNS}
use Rattle.hub_ask.specs.declared.exchanging.TheConstants.{ANSWER}
use Rattle.hub_ask.specs.declared.fault.AskError.{AskError}
use Rattle.hub_ask.specs.declared.outcome.Outcome.{Outcome}
use Rattle.hub_client.specs.Passing.{has_lf}
use Rattle.hub_commands.specs.Asking.{Asks, IsAsked, Ends}
use Rattle.hub_ask.specs.Streams.{Going}
use Rattle.hub_dialing.specs.Dialing.{Dialing, OverOne}
use Rattle.hub_commands.specs.Hints.{Hints, refusal_in, refusal_of}
use Rattle.hub_endings.specs.declared.ending.BadWords.{BadWords}
use Rattle.hub_endings.specs.declared.ending.Ending.{Ending}
use Rattle.hub_endings.specs.declared.ending.Ending.TheVariants.{Failed}
use Rattle.hub_endings.specs.declared.fault.Fault.TheVariants.{Ask}
use Rattle.hub_protocol.specs.Replies.{IsShown, Shows}
use Rattle.hub_protocol.specs.declared.replies.BorrowedReply.{BorrowedReply}
use Rattle.hub_protocol.specs.declared.replies.BorrowedReply.TheVariants as shown
use Rattle.hub_requests.specs.declared.reply.Reply.{Reply}
use Rattle.hub_requests.specs.declared.reply.Reply.TheVariants as reply
use Rattle.hub_io.specs.Counted.{Writing}

-- what went over the connection that was made
pub over_one : {D SR SW : Type 0} (d : Dialing D SR SW) (old new : D) (socket : List ℕ) (millis : ℕ) (went : Going) (receive receives : SR) (send sends : SW)
    → d.reaches old socket millis (Ok (receive, send)) new → went (d.contents send) (d.contents sends) (d.remaining receive) (d.remaining receives)
    → OverOne d old new socket millis went
over_one d old new socket millis went receive receives send sends reached over =
    record { receive = receive; receives = receives; send = send; sends = sends; reached = reached; over = over }

-- an error over the connection ends the command
pub ends_with_error : {D SR SW : Type 0} (d : Dialing D SR SW) (old new : D) (socket : List ℕ) (millis : ℕ) (line : List ℕ)
    (refuses : BadWords → Type 0) (untouched : Type 0) (goes : Outcome → Going) (fails : AskError → Going)
    (result : Result ℕ Ending) (error : AskError) → IsErrAnd result (λ it. it ≡ Failed (Ask error)) → has_lf line ≡ false
    → OverOne d old new socket millis (fails error) → Ends d old new socket millis line refuses untouched goes fails result
ends_with_error d old new socket millis line refuses untouched goes fails (Ok status) error is cut over = absurd is
ends_with_error d old new socket millis line refuses untouched goes fails (Err ending) error is cut over =
    subst (λ it. Ends d old new socket millis line refuses untouched goes fails (Err it)) (sym is) (inr (inr (cut, error, refl, over)))

-- an error of `ask`
pub asks_in_vain : {D SR SW F : Type 0} (d : Dialing D SR SW) (old new : D) (socket line words : List ℕ) (turns : ℕ) (n : Writing F) (notes note : F) (untouched : Type 0)
    (held holds : Option (List ℕ)) (result : Result ℕ Ending) (error : AskError) (receive receives : SR) (send sends : SW)
    → line ≡ words → has_lf line ≡ false → turns ≤ MOST_TURNS → IsErrAnd result (λ it. it ≡ Failed (Ask error))
    → d.reaches old socket (turns + ANSWER) (Ok (receive, send)) new
    → HasNoReply Tells (d.contents send) (d.contents sends) (d.remaining receive) (d.remaining receives) held holds line error → note ≡ notes
    → Asks d old new socket words n notes note untouched held holds result
asks_in_vain d old new socket line words turns n notes note untouched held holds result error receive receives send sends same cut few is reached over kept =
    subst (λ it. Asks d old new socket it n notes note untouched held holds result) same (
      turns,
      few,
      ends_with_error d old new socket (turns + ANSWER) line _ (untouched × (note ≡ notes)) _ (λ error sent sends had has. HasNoReply Tells sent sends had has held holds line error × (note ≡ notes)) result error is cut
          (over_one d old new socket (turns + ANSWER) _ receive receives send sends reached (over, kept)),
    )

-- what is read of a reply is refused for the same reason
same_refusal : (read : BorrowedReply) (it : Reply) → Shows read it → refusal_in read ≡ refusal_of it
same_refusal (shown.No refusal) (reply.No other) h = ap Some h
same_refusal (shown.No refusal) it h = absurd h
same_refusal read (reply.No other) h = absurd h
same_refusal read it h = refl

-- an `ask` that has a reply
pub asks_so : {D SR SW F : Type 0} (d : Dialing D SR SW) (old new : D) (socket line words bytes : List ℕ) (turns : ℕ) (n : Writing F) (notes note : F) (untouched : Type 0)
    (held holds : Option (List ℕ)) (status : ℕ) (outcome : Outcome) (text : List ℕ) (read : BorrowedReply) (h : IsShown text read) (receive receives : SR) (send sends : SW)
    → line ≡ words → bytes ≡ line → has_lf line ≡ false → turns ≤ MOST_TURNS → status ≡ status_of outcome
    → ((it : Reply) → Shows read it → outcome ≡ outcome_of it) → d.reaches old socket (turns + ANSWER) (Ok (receive, send)) new
    → IsWritten (d.contents send) (d.contents sends) (d.remaining receive) (d.remaining receives) held holds line text
    → Hints n notes note bytes (refusal_in read)
    → Asks d old new socket words n notes note untouched held holds (Ok status)
asks_so d old new socket line words bytes turns n notes note untouched held holds status outcome text read h receive receives send sends same is_line cut few is went reached written hints =
    let asked : IsAsked (d.contents send) (d.contents sends) (d.remaining receive) (d.remaining receives) held holds line (Hints n notes note line) outcome = record {
      reply = h.reply;
      of_hub = h.of_hub;
      written = subst (λ it. IsWritten (d.contents send) (d.contents sends) (d.remaining receive) (d.remaining receives) held holds line it) h.spelled written;
      went = went h.reply h.shows;
      hinted = subst (λ it. Hints n notes note line it) (same_refusal read h.reply h.shows) (subst (λ it. Hints n notes note it (refusal_in read)) is_line hints);
    } in
    subst (λ it. Asks d old new socket it n notes note untouched held holds (Ok status)) same (
      turns,
      few,
      (cut, outcome, is, over_one d old new socket (turns + ANSWER) _ receive receives send sends reached asked),
    )

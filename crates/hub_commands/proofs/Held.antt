-- How a `hold` ends.
use Rattle.std.proofs.Common.{◌≡◌, ◌≢◌, ◌⊎◌, inr, ℕ, List, ◌++◌, Option, Result, Ok, Err, IfOk, IfErr, IsErrAnd, false, refl, subst}
use Rattle.std.proofs.KnownBytes.{Consumes-kept, Consumes-trans}
use Rattle.std.specs.Io.KnownBytes.{Consumes, Keeps}
use Rattle.hub_ask.specs.Outcomes.{status_of}
use Rattle.hub_ask.specs.declared.client.Client.{Client}
use Rattle.hub_ask.specs.declared.exchanging.TheConstants.{ANSWER}
use Rattle.hub_ask.specs.declared.fault.AskError.{AskError}
use Rattle.hub_ask.specs.declared.outcome.Outcome.{Outcome}
use Rattle.hub_ask.specs.declared.outcome.Outcome.TheVariants.{Done, Refused, Never, Late, Nothing}
use Rattle.hub_letters.specs.declared.state.State.{State}
use Rattle.hub_ask.specs.Streams.{IsReplied, Streams, streams}
use Rattle.hub_requests.specs.declared.request.Request.{Request}
use Rattle.hub_requests.specs.declared.reply.Reply.TheVariants as reply
use Rattle.hub_requests.specs.declared.request.Request.TheVariants as request
use Rattle.hub_requests.specs.declared.will.Will.{Will}
use Rattle.hub_io.specs.Counted.{Reading, Writing}
use Rattle.hub_dialing.specs.Dialing.{Dialing}
use Rattle.hub_commands.specs.Holding.{FailsToAskEach, FailsToRead, FailsToSay, HoldsAsTold, IsAsked, IsHeld, IsSaid, beside, request_of}
use Rattle.hub_commands.specs.Telling.{RefusesName}
use Rattle.hub_endings.specs.declared.ending.Ending.{Ending}
use Rattle.hub_endings.specs.declared.ending.Ending.TheVariants.{Failed}
use Rattle.hub_endings.specs.declared.fault.Fault.TheVariants.{Ask}
use Rattle.hub_commands.proofs.Doing.{does_in_vain, does_so}

-- how the requests went, and the input
abbrev pub Goes : {R : Type 0} → Reading R → (input rest : R) → (name : List ℕ) → (will : Request) → (said : Option Request) → Outcome → (before after : Streams) → Type 0
Goes r input rest name will said outcome before after = IsAsked before after will said name outcome × IsHeld r input rest outcome

-- how they failed, or how the input did
abbrev pub Fails : {R : Type 0} → Reading R → (input rest : R) → (name : List ℕ) → (will : Request) → (said : Option Request) → AskError → (before after : Streams) → Type 0
Fails r input rest name will said error before after =
    (FailsToAskEach before after will said error × (rest ≡ input))
    ⊎ (IsAsked before after will said name Done × FailsToRead (r.remaining input) (r.remaining rest) (r.faults input) (r.faults rest) error)

-- the will was left, and then this was told
pub asked_both : (before between after : Streams) (will : Request) (told : Option Request) (name : List ℕ) (result : Result Outcome AskError)
    → IsReplied before between will reply.Done → IfOk result (IsSaid between after told name) → IfOk result (IsAsked before after will told name)
asked_both before between after will told name (Ok outcome) left said = inr (between, left, said)
asked_both before between after will told name (Err error) left said = tt

-- the will was left, and then telling this failed
pub asked_in_vain : (before between after : Streams) (will : Request) (told : Option Request) (result : Result Outcome AskError)
    → IsReplied before between will reply.Done → IfErr result (FailsToSay between after told) → IfErr result (FailsToAskEach before after will told)
asked_in_vain before between after will told (Ok outcome) left said = tt
asked_in_vain before between after will told (Err error) left said = inr (between, left, said)

-- more of the input was read
pub read_on : (had between has : Option (List ℕ)) (bytes : List ℕ) → ((read : List ℕ) × Consumes had between read) → Consumes between has bytes → ((read : List ℕ) × Consumes had has read)
read_on had between has bytes before more = (before.0 ++ bytes, Consumes-trans had between has before.0 bytes before.1 more)

-- a read gave nothing
pub read_no_more : (had between has : Option (List ℕ)) → ((read : List ℕ) × Consumes had between read) → Keeps between has → ((read : List ℕ) × Consumes had has read)
read_no_more had between has before kept = (before.0, Consumes-kept had between has before.0 before.1 kept)

-- nothing of the input is read after a refusal
pub is_not_read : {R : Type 0} (r : Reading R) (input : R) (outcome : Outcome) → outcome ≢ Done → IsHeld r input input outcome
is_not_read r input Done other = absurd (other refl)
is_not_read r input Refused other = refl
is_not_read r input Never other = refl
is_not_read r input Late other = refl
is_not_read r input Nothing other = refl

-- it has an outcome
pub holds_so : {D SR SW F R : Type 0} (d : Dialing D SR SW) (old new : D) (socket : List ℕ) (n : Writing F) (notes note : F) (r : Reading R) (input rest : R) (name named : List ℕ) (will : Will) (told : Option State)
    (said : Option Request) (status : ℕ) (outcome : Outcome) (receive : SR) (send : SW) (client later : Client SR SW) → named ≡ name → said ≡ request_of told named → status ≡ status_of outcome
    → d.reaches old socket ANSWER (Ok (receive, send)) new → client ≡ record { receiver = receive; sender = send; is_broken = false }
    → IsAsked (streams d.contents d.remaining n.contents n.faults client notes) (streams d.contents d.remaining n.contents n.faults later note) (request.Will named will) said name outcome
    → IsHeld r input rest outcome
    → HoldsAsTold d old new socket n notes note r input rest name will told (Ok status)
holds_so d old new socket n notes note r input rest name named will told said status outcome receive send client later same is_said is reached begun over held =
    does_so d old new socket (beside n) (notes, input) (note, rest) (RefusesName name) (Goes r input rest name (request.Will name will) (request_of told name))
    (Fails r input rest name (request.Will name will) (request_of told name)) status outcome receive send client later is reached begun (
      subst (λ it. IsAsked (streams d.contents d.remaining n.contents n.faults client notes) (streams d.contents d.remaining n.contents n.faults later note) (request.Will it will) (request_of told it) name outcome) same
          (subst (λ it. IsAsked (streams d.contents d.remaining n.contents n.faults client notes) (streams d.contents d.remaining n.contents n.faults later note) (request.Will named will) it name outcome) is_said over),
      held,
    )

-- it fails over the connection
pub holds_in_vain : {D SR SW F R : Type 0} (d : Dialing D SR SW) (old new : D) (socket : List ℕ) (n : Writing F) (notes note : F) (r : Reading R) (input rest : R) (name named : List ℕ) (will : Will) (told : Option State)
    (said : Option Request) (result : Result ℕ Ending) (error : AskError) (receive : SR) (send : SW) (client later : Client SR SW) → named ≡ name → said ≡ request_of told named → IsErrAnd result (λ it. it ≡ Failed (Ask error))
    → d.reaches old socket ANSWER (Ok (receive, send)) new → client ≡ record { receiver = receive; sender = send; is_broken = false }
    → Fails r input rest name (request.Will named will) said error (streams d.contents d.remaining n.contents n.faults client notes) (streams d.contents d.remaining n.contents n.faults later note)
    → HoldsAsTold d old new socket n notes note r input rest name will told result
holds_in_vain d old new socket n notes note r input rest name named will told said result error receive send client later same is_said is reached begun over =
    does_in_vain d old new socket (beside n) (notes, input) (note, rest) (RefusesName name) (Goes r input rest name (request.Will name will) (request_of told name))
    (Fails r input rest name (request.Will name will) (request_of told name)) result error receive send client later is reached begun
    (subst (λ it. Fails r input rest name (request.Will it will) (request_of told it) error (streams d.contents d.remaining n.contents n.faults client notes) (streams d.contents d.remaining n.contents n.faults later note)) same
    (subst (λ it. Fails r input rest name (request.Will named will) it error (streams d.contents d.remaining n.contents n.faults client notes) (streams d.contents d.remaining n.contents n.faults later note)) is_said over))

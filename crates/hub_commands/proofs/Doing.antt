-- How a command ends that asks for something over one connection.
use Rattle.std.proofs.Common.{◌≡◌, ℕ, List, Result, Ok, Err, IsErrAnd, false, inr, refl, sym, subst}
use Rattle.hub_ask.specs.Outcomes.{status_of}
use Rattle.hub_ask.specs.declared.client.Client.{Client}
use Rattle.hub_ask.specs.declared.exchanging.TheConstants.{ANSWER}
use Rattle.hub_ask.specs.declared.fault.AskError.{AskError}
use Rattle.hub_ask.specs.declared.outcome.Outcome.{Outcome}
use Rattle.hub_ask.specs.Streams.{Streams, streams, Told}
use Rattle.hub_io.specs.Counted.{Writing}
use Rattle.hub_commands.specs.Asked.{DoesWith}
use Rattle.hub_dialing.specs.Dialing.{Dialing, OverOne}
use Rattle.hub_endings.specs.declared.ending.BadWords.{BadWords}
use Rattle.hub_endings.specs.declared.ending.Ending.{Ending}
use Rattle.hub_endings.specs.declared.ending.Ending.TheVariants.{Failed}
use Rattle.hub_endings.specs.declared.fault.Fault.TheVariants.{Ask}
use Rattle.hub_commands.proofs.Requested.{over_one}

-- what went over the connection, if the client began with its streams
over_it : {D SR SW F : Type 0} (d : Dialing D SR SW) (old new : D) (socket : List ℕ) (n : Writing F) (notes note : F) (went : (before after : Streams) → Type 0)
    (receive : SR) (send : SW) (client later : Client SR SW)
    → d.reaches old socket ANSWER (Ok (receive, send)) new → client ≡ record { receiver = receive; sender = send; is_broken = false }
    → went (streams d.contents d.remaining n.contents n.faults client notes) (streams d.contents d.remaining n.contents n.faults later note)
    → OverOne d old new socket ANSWER (Told n notes note went)
over_it d old new socket n notes note went receive send client later reached begun over =
    over_one d old new socket ANSWER (Told n notes note went) receive later.receiver send later.sender reached
    (subst (λ it. went (streams d.contents d.remaining n.contents n.faults it notes) (streams d.contents d.remaining n.contents n.faults later note)) begun over)

-- it has an outcome
pub does_so : {D SR SW F : Type 0} (d : Dialing D SR SW) (old new : D) (socket : List ℕ) (n : Writing F) (notes note : F) (refuses : BadWords → Type 0)
    (goes : Outcome → (before after : Streams) → Type 0) (fails : AskError → (before after : Streams) → Type 0)
    (status : ℕ) (outcome : Outcome) (receive : SR) (send : SW) (client later : Client SR SW) → status ≡ status_of outcome
    → d.reaches old socket ANSWER (Ok (receive, send)) new → client ≡ record { receiver = receive; sender = send; is_broken = false }
    → goes outcome (streams d.contents d.remaining n.contents n.faults client notes) (streams d.contents d.remaining n.contents n.faults later note)
    → DoesWith d old new socket n notes note refuses goes fails (Ok status)
does_so d old new socket n notes note refuses goes fails status outcome receive send client later is reached begun over =
    (outcome, is, over_it d old new socket n notes note (goes outcome) receive send client later reached begun over)

-- it fails over the connection
pub does_in_vain : {D SR SW F : Type 0} (d : Dialing D SR SW) (old new : D) (socket : List ℕ) (n : Writing F) (notes note : F) (refuses : BadWords → Type 0)
    (goes : Outcome → (before after : Streams) → Type 0) (fails : AskError → (before after : Streams) → Type 0)
    (result : Result ℕ Ending) (error : AskError) (receive : SR) (send : SW) (client later : Client SR SW) → IsErrAnd result (λ it. it ≡ Failed (Ask error))
    → d.reaches old socket ANSWER (Ok (receive, send)) new → client ≡ record { receiver = receive; sender = send; is_broken = false }
    → fails error (streams d.contents d.remaining n.contents n.faults client notes) (streams d.contents d.remaining n.contents n.faults later note)
    → DoesWith d old new socket n notes note refuses goes fails result
does_in_vain d old new socket n notes note refuses goes fails (Ok status) error receive send client later is reached begun over = absurd is
does_in_vain d old new socket n notes note refuses goes fails (Err ending) error receive send client later is reached begun over =
    subst (λ it. DoesWith d old new socket n notes note refuses goes fails (Err it)) (sym is)
    (inr (inr (error, refl, over_it d old new socket n notes note (fails error) receive send client later reached begun over)))

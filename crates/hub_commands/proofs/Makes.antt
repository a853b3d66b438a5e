-- How a `make` ends.
use Rattle.std.proofs.Common.{◌≡◌, ℕ, List, Result, Ok, IsErrAnd, map, false, subst}
use Rattle.hub_options.specs.declared.changing.Shape.{Shape}
use Rattle.hub_ask.specs.Outcomes.{status_of}
use Rattle.hub_ask.specs.declared.client.Client.{Client}
use Rattle.hub_ask.specs.declared.exchanging.TheConstants.{ANSWER}
use Rattle.hub_ask.specs.declared.fault.AskError.{AskError}
use Rattle.hub_ask.specs.declared.outcome.Outcome.{Outcome}
use Rattle.hub_ask.specs.Streams.{streams}
use Rattle.hub_io.specs.Counted.{Writing}
use Rattle.hub_dialing.specs.Dialing.{Dialing}
use Rattle.hub_commands.specs.Making.{FailsToMakeEach, MakesAsTold, MakesEach, RefusesNames}
use Rattle.hub_endings.specs.declared.ending.Ending.{Ending}
use Rattle.hub_endings.specs.declared.ending.Ending.TheVariants.{Failed}
use Rattle.hub_endings.specs.declared.fault.Fault.TheVariants.{Ask}
use Rattle.hub_commands.proofs.Doing.{does_in_vain, does_so}

-- it has an outcome
pub makes_so : {D SR SW F Word : Type 0} (text : Word → List ℕ) (d : Dialing D SR SW) (old new : D) (socket : List ℕ) (n : Writing F) (notes note : F) (words : List Word) (names : List (List ℕ)) (wanted : Shape)
    (status : ℕ) (outcome : Outcome) (receive : SR) (send : SW) (client later : Client SR SW) → names ≡ map text words → status ≡ status_of outcome
    → d.reaches old socket ANSWER (Ok (receive, send)) new → client ≡ record { receiver = receive; sender = send; is_broken = false }
    → MakesEach (streams d.contents d.remaining n.contents n.faults client notes) (streams d.contents d.remaining n.contents n.faults later note) wanted names outcome
    → MakesAsTold d old new socket n notes note text words wanted (Ok status)
makes_so text d old new socket n notes note words names wanted status outcome receive send client later same is reached begun over =
    does_so d old new socket n notes note (RefusesNames text words) (λ outcome before after. MakesEach before after wanted (map text words) outcome)
    (λ error before after. FailsToMakeEach before after wanted (map text words) error) status outcome receive send client later is reached begun
    (subst (λ it. MakesEach (streams d.contents d.remaining n.contents n.faults client notes) (streams d.contents d.remaining n.contents n.faults later note) wanted it outcome) same over)

-- it fails over the connection
pub makes_in_vain : {D SR SW F Word : Type 0} (text : Word → List ℕ) (d : Dialing D SR SW) (old new : D) (socket : List ℕ) (n : Writing F) (notes note : F) (words : List Word) (names : List (List ℕ)) (wanted : Shape)
    (result : Result ℕ Ending) (error : AskError) (receive : SR) (send : SW) (client later : Client SR SW) → names ≡ map text words → IsErrAnd result (λ it. it ≡ Failed (Ask error))
    → d.reaches old socket ANSWER (Ok (receive, send)) new → client ≡ record { receiver = receive; sender = send; is_broken = false }
    → FailsToMakeEach (streams d.contents d.remaining n.contents n.faults client notes) (streams d.contents d.remaining n.contents n.faults later note) wanted names error
    → MakesAsTold d old new socket n notes note text words wanted result
makes_in_vain text d old new socket n notes note words names wanted result error receive send client later same is reached begun over =
    does_in_vain d old new socket n notes note (RefusesNames text words) (λ outcome before after. MakesEach before after wanted (map text words) outcome)
    (λ error before after. FailsToMakeEach before after wanted (map text words) error) result error receive send client later is reached begun
    (subst (λ it. FailsToMakeEach (streams d.contents d.remaining n.contents n.faults client notes) (streams d.contents d.remaining n.contents n.faults later note) wanted it error) same over)

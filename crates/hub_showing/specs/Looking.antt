-- What the subcommands do that only look.
use Rattle.std.specs.Prelude.{◌≡◌, ◌⊎◌, ℕ, List, Bool, Option, Result, Ok, Err, true, false}
use Rattle.hub_ask.specs.Outcomes.{status_of}
use Rattle.hub_ask.specs.declared.exchanging.TheConstants.{ANSWER}
use Rattle.hub_ask.specs.declared.fault.AskError.{AskError}
use Rattle.hub_ask.specs.declared.outcome.Outcome.{Outcome}
use Rattle.hub_look.specs.Looks.{OnlyLooks}
use Rattle.hub_ask.specs.Streams.{Going, Told}
use Rattle.hub_look.specs.Tables.{FailsToShowStates, ShowsStates}
use Rattle.hub_io.specs.Counted.{Writing}
use Rattle.hub_endings.specs.Words.{any_breaks}
use Rattle.hub_dialing.specs.Dialing.{Dialing, OverOne}
use Rattle.hub_endings.specs.declared.ending.BadWords.{BadWords}
use Rattle.hub_endings.specs.declared.ending.BadWords.TheVariants as bad
use Rattle.hub_endings.specs.declared.ending.Ending.{Ending}
use Rattle.hub_endings.specs.declared.ending.Ending.TheVariants.{Refused, Stopped, Unreached, Failed}
use Rattle.hub_endings.specs.declared.fault.Fault.TheVariants.{Ask}

-- Over one connection nothing was sent but looks, and this went over it.
abbrev pub LooksOver : {D SR SW : Type 0} → Dialing D SR SW → (old new : D) → (socket : List ℕ) → (went : Going) → Type 0
LooksOver d old new socket went = OverOne d old new socket ANSWER (λ sent sends had has. ∥ OnlyLooks sent sends ∥₁ × went sent sends had has)

-- How a command ended that only looks, if `breaks` says whether its words have an LF: with the status of its outcome, or with
-- words that were refused, and then no connection was made and nothing was touched, or with a fault.
abbrev pub LooksWith : {D SR SW : Type 0} → Dialing D SR SW → (old new : D) → (socket : List ℕ) → (breaks : Bool)
    → (refused : BadWords) → (untouched : Type 0) → (goes : Outcome → Going) → (fails : AskError → Going) → Result ℕ Ending → Type 0
LooksWith d old new socket breaks refused untouched goes fails (Ok status) =
    (breaks ≡ false) × (outcome : Outcome) × (status ≡ status_of outcome) × LooksOver d old new socket (goes outcome)
LooksWith d old new socket breaks refused untouched goes fails (Err (Refused words)) =
    (breaks ≡ true) × (words ≡ refused) × (new ≡ old) × untouched
LooksWith d old new socket breaks refused untouched goes fails (Err (Stopped report)) = ⊥
LooksWith d old new socket breaks refused untouched goes fails (Err (Unreached hub)) = ⊥
LooksWith d old new socket breaks refused untouched goes fails (Err (Failed fault)) = (breaks ≡ false)
    × ((d.reaches old socket ANSWER (Err fault) new × untouched)
    ⊎ ((error : AskError) × (fault ≡ Ask error) × LooksOver d old new socket (fails error)))

-- `status` of these names, or of all
abbrev pub ShowsStatus : {D SR SW F Name : Type 0} → Dialing D SR SW → (old new : D) → (socket : List ℕ) → Writing F → (notes note : F)
    → (text : Name → List ℕ) → (is_json : Bool) → (names : List Name) → (untouched : Type 0) → (held holds : Option (List ℕ)) → Result ℕ Ending → Type 0
ShowsStatus d old new socket n notes note text is_json names untouched held holds result = LooksWith
    d old new socket (any_breaks text names) bad.Name untouched
    (λ outcome. Told n notes note (λ before after. ShowsStates text is_json before after held holds names outcome))
    (λ error. Told n notes note (λ before after. FailsToShowStates text is_json before after held holds names error)) result

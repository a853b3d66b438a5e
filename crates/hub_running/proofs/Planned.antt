-- Plans that were carried out.
use Rattle.std.proofs.Common.{◌≡◌, ℕ, List, Option, Result, sym, subst}
use Rattle.hub_arguments.specs.declared.command_line.Plan.{Plan}
use Rattle.hub_ask.specs.Lines.{joined}
use Rattle.hub_commands.specs.Asking.{Asks}
use Rattle.hub_dialing.specs.Calls.{Calling}
use Rattle.hub_dialing.specs.Dialing.{Dialing}
use Rattle.hub_running.specs.Running.{CarriesOut, Hands}
use Rattle.hub_endings.specs.declared.ending.Ending.{Ending}
use Rattle.hub_io.specs.Counted.{Reading, Writing}

-- what is done with a plan is done with the same plan
pub same_plan : {D SR SW CR CW R W F : Type 0} (d : Dialing D SR SW) (c : Calling D CR CW) (r : Reading R) (w : Writing W) (n : Writing F) (old new : Hands D R W F) (plan other : Plan)
    (result : Result ℕ Ending) → plan ≡ other → CarriesOut d c r w n old new other result → CarriesOut d c r w n old new plan result
same_plan d c r w n old new plan other result same carried = subst (λ it. CarriesOut d c r w n old new it result) (sym same) carried

-- what is asked by some words is asked by the same words
pub same_words : {D SR SW F Word : Type 0} (text : Word → List ℕ) (d : Dialing D SR SW) (old new : D) (socket : List ℕ) (words others : List Word)
    (n : Writing F) (notes note : F) (untouched : Type 0) (held holds : Option (List ℕ)) (result : Result ℕ Ending) → others ≡ words
    → Asks d old new socket (joined text others) n notes note untouched held holds result → Asks d old new socket (joined text words) n notes note untouched held holds result
same_words text d old new socket words others n notes note untouched held holds result same asked =
    subst (λ it. Asks d old new socket (joined text it) n notes note untouched held holds result) same asked

-- The word for the state of a service.
use Rattle.std.specs.Prelude.{ℕ, List, if◌then◌else◌, codes}
use Rattle.hub_letters.specs.declared.flags.Flags.{Flags}
use Rattle.hub_letters.specs.declared.stage.Stage.{Stage}
use Rattle.hub_letters.specs.declared.stage.Stage.TheVariants.{Off, Idle, Starting, Ready, Ending}

-- by its flags
abbrev pub state_word : Flags → List ℕ
state_word flags =
    if flags.supervised
    then (if flags.up then (if flags.settled then codes "ready" else codes "up")
    else (if flags.settled then (if flags.failed then codes "failed" else codes "down") else codes "stopping"))
    else (if flags.up then codes "orphaned" else codes "off")

-- by its stage, and by one flag where a stage has two words
abbrev pub stage_word : Stage → Flags → List ℕ
stage_word Off flags = if flags.up then codes "orphaned" else codes "off"
stage_word Idle flags = if flags.failed then codes "failed" else codes "down"
stage_word Starting flags = codes "up"
stage_word Ready flags = codes "ready"
stage_word Ending flags = codes "stopping"

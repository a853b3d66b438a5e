-- Where a service is in a person's words, and the letters that bring it there.
use Rattle.std.specs.Prelude.{ℕ, Bool, true, false, not, if◌then◌else◌, List, [], codes}
use Rattle.hub_letters.specs.declared.flags.Flags.{Flags}
use Rattle.hub_letters.specs.declared.stage.Stage.{Stage}
use Rattle.hub_letters.specs.declared.stage.Stage.TheVariants as stage
use Rattle.hub_letters.specs.declared.state.State.{State}
use Rattle.hub_letters.specs.Stages.{stage_of}
use Rattle.hub_letters.specs.Flags.{flags_of}
use Rattle.hub_letters.specs.declared.state.State.TheVariants.{Off, Down, Up, Ready, Failed}

-- whether a service of this stage and these flags is at the state
abbrev pub is_at : State → Stage → Flags → Bool
is_at Off stage.Off flags = not flags.up
is_at Down stage.Idle flags = true
is_at Up stage.Starting flags = true
is_at Up stage.Ready flags = true
is_at Ready stage.Ready flags = true
is_at Failed stage.Idle flags = flags.failed
is_at state stage flags = false

-- The letters that bring a service of this stage to the state, if it isn't there. `failed` says whether it has failed already.
abbrev pub word_from : Bool → State → Stage → List ℕ
word_from failed Off stage.Off = codes "sx"
word_from failed Off stage.Idle = codes "x"
word_from failed Off stage.Starting = codes "dDx"
word_from failed Off stage.Ready = codes "dDx"
word_from failed Off stage.Ending = codes "Dx"
word_from failed Down stage.Off = codes "s"
word_from failed Down stage.Starting = codes "dD"
word_from failed Down stage.Ready = codes "dD"
word_from failed Down stage.Ending = codes "D"
word_from failed Up stage.Off = codes "su"
word_from failed Up stage.Idle = codes "u"
word_from failed Up stage.Ending = codes "Du"
word_from failed Ready stage.Off = codes "suU"
word_from failed Ready stage.Idle = codes "uU"
word_from failed Ready stage.Starting = codes "U"
word_from failed Ready stage.Ending = codes "DuU"
word_from failed Failed stage.Off = codes "sO"
word_from failed Failed stage.Idle = codes "O"
word_from true Failed stage.Starting = codes "dD"
word_from true Failed stage.Ready = codes "dD"
word_from true Failed stage.Ending = codes "D"
word_from false Failed stage.Starting = codes "dDO"
word_from false Failed stage.Ready = codes "dDO"
word_from false Failed stage.Ending = codes "DO"
word_from failed state stage = []

-- the word for a state: no letters if it holds already
abbrev pub word_to : State → Stage → Flags → List ℕ
word_to state stage flags = if is_at state stage flags then [] else word_from flags.failed state stage

-- the word for a state behind a service's word
abbrev pub word_behind : State → List ℕ → List ℕ
word_behind state word = word_to state (stage_of word) (flags_of word)

-- whether a service is at the state after this word
abbrev pub is_at_end : State → List ℕ → Bool
is_at_end state word = is_at state (stage_of word) (flags_of word)

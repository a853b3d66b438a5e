-- What a session wants its services to be told when it ends.
use Rattle.std.specs.Prelude.{ℕ, ◌<◌, List, Option, Some, None}
use Rattle.std.specs.Borrow.{Bor}
use Rattle.std.specs.Map.{set_value}
use Rattle.std.specs.Str.{bytes_eq}
use Rattle.indexmap.specs.IndexMap.{insert_entry, spare}
use Rattle.hub_letters.specs.declared.state.State.{State}
use Rattle.hub_letters.specs.declared.state.State.TheVariants as state
use Rattle.hub_requests.specs.declared.will.Will.{Will}
use Rattle.hub_requests.specs.declared.will.Will.TheVariants as will
use Rattle.hub_requests.specs.declared.wills.Wills.{Wills}

-- the state that the service is to be told, if any
abbrev pub state_of : Will → Option State
state_of will.Off = Some state.Off
state_of will.Down = Some state.Down
state_of will.Failed = Some state.Failed
state_of will.None = None

-- each name with its will, in the order in which the names were first given one
abbrev pub wills_in : Wills → List (List ℕ × Will)
wills_in wills = wills.by_name.entries

-- the will of one more name fits, with no memory taken
abbrev pub HasRoom : Wills → Type 0
HasRoom wills = 0 < spare wills.by_name

abbrev pub named : Bor (List ℕ) × Will → List ℕ × Will
named given = (given.0.now, given.1)

-- With this will for the name: in the place of an earlier one, or last. To take back a will leaves the name's place, and does
-- nothing if the name has none.
abbrev pub with_will : List (List ℕ × Will) → List ℕ → Will → List (List ℕ × Will)
with_will wills name will.Off = insert_entry bytes_eq wills name will.Off
with_will wills name will.Down = insert_entry bytes_eq wills name will.Down
with_will wills name will.Failed = insert_entry bytes_eq wills name will.Failed
with_will wills name will.None = set_value (bytes_eq name) wills will.None

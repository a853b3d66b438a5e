-- When a hub says that clients wait for a session.
use Rattle.std.specs.Prelude.{ℕ, Bool, true, false, Option, None, Some}
use Rattle.hub_endings.specs.declared.hub_line.HubLine.{HubLine}
use Rattle.hub_endings.specs.declared.hub_line.HubLine.TheVariants.{Full, LookFull}
use Rattle.hub_server.specs.declared.side.Side.{Side}
use Rattle.hub_server.specs.declared.side.Side.TheVariants.{First, Looking}
use Rattle.hub_serving.specs.declared.crowd.Crowding.{Crowding}
use Rattle.hub_serving.specs.declared.crowd.Crowding.TheVariants.{Room, Seen, Told}

-- what is known after a look at which no session is free or one is, and a client waits or not
abbrev pub crowding_after : Crowding → (is_full waits : Bool) → Crowding
crowding_after state false waits = Room
crowding_after Room true false = Room
crowding_after Room true true = Seen
crowding_after Seen true false = Room
crowding_after Seen true true = Told
crowding_after Told true waits = Told

-- what is told of a door whose clients wait, where there may be so many sessions
abbrev pub full_line : Side → (sessions : ℕ) → HubLine
full_line First sessions = Full sessions
full_line Looking sessions = LookFull

-- what is told then: this line, at the second look in a row that finds that clients wait
abbrev pub line_of_crowd : HubLine → Crowding → (is_full waits : Bool) → Option HubLine
line_of_crowd line Seen true true = Some line
line_of_crowd line state is_full waits = None

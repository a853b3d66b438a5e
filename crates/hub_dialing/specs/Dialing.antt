-- How a hub is reached.
use Rattle.std.specs.Prelude.{⊤, ℕ, List, Option, Result, Ok}
use Rattle.hub_ask.specs.declared.fault.AskError.TheVariants.{NoAnswer}
use Rattle.hub_endings.specs.declared.fault.Fault.{Fault}
use Rattle.hub_endings.specs.declared.fault.Fault.TheVariants.{Reach, Ask}

-- it couldn't connect, or not in time
abbrev pub IsUnreached : Fault → Type 0
IsUnreached (Reach why) = ⊤
IsUnreached (Ask NoAnswer) = ⊤
IsUnreached other = ⊥

-- how a dialer reaches a hub: the dialer before, the path of the socket, the milliseconds, the two halves of a connection or a
-- fault, the dialer after
abbrev pub Reaching : (D SR SW : Type 0) → Type 1
Reaching D SR SW = D → (socket : List ℕ) → (millis : ℕ) → Result (SR × SW) Fault → D → Type 0

-- a dialer, and how the streams of its connections are seen
pub record Dialing (D SR SW : Type 0) : Type 1 where
  pub reaches : Reaching D SR SW
  pub remaining : SR → Option (List ℕ)
  pub contents : SW → Option (List ℕ)

abbrev pub dialing : {D SR SW : Type 0} → Reaching D SR SW → (remaining : SR → Option (List ℕ)) → (contents : SW → Option (List ℕ)) → Dialing D SR SW
dialing reaches remaining contents = record { reaches = reaches; remaining = remaining; contents = contents }

-- One connection was made, to this socket and for so many milliseconds, and this went over it: what had been sent before and
-- after, and what was left of the peer's bytes before and after.
pub record OverOne {D SR SW : Type 0} (d : Dialing D SR SW) (old new : D) (socket : List ℕ) (millis : ℕ)
    (went : (sent sends had has : Option (List ℕ)) → Type 0) : Type 0 where
  pub receive : SR
  pub receives : SR
  pub send : SW
  pub sends : SW
  pub reached : d.reaches old socket millis (Ok (receive, send)) new
  pub over : went (d.contents send) (d.contents sends) (d.remaining receive) (d.remaining receives)

-- The workers that were started.
use Rattle.std.specs.Prelude.{◌≡◌, ℕ, List, length, All, IsSome}
use Rattle.hub_server.specs.Gates.{Giving}
use Rattle.hub_server.specs.Turns.{Ending, IsLasting, Telling}
use Rattle.hub_server.specs.declared.crew.Place.{Place}

-- a thread that began with this gate and this journal has served one session after the other
pub record HasWorked {G J R W : Type 0} (gives : Giving G R W) (t : Telling J R W) (ends : Ending R W) (gate : G) (journal : J) : Type 0 where
  pub left : G
  pub told : J
  pub lasting : IsLasting gives t ends gate journal left told

-- as many places as were asked for, each with its thread
pub record IsCrew (asked : ℕ) (places : List Place) : Type 0 where
  pub many : length places ≡ asked
  pub threads : All (λ place. IsSome place.thread) places

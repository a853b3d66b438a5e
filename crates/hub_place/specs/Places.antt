-- Which paths a hub's socket may have.
use Rattle.std.specs.Prelude.{ℕ, List, [], ◌∷◌, length, Result, Ok, Err, nat_lt, if◌then◌else◌}
use Rattle.hub_endings.specs.declared.listen_fault.ListenFault.{ListenFault}
use Rattle.hub_endings.specs.declared.listen_fault.ListenFault.TheVariants.{Empty, Long}

-- why a socket with a second name can't have this path, if it can't
abbrev pub path_fault : (path : List ℕ) → Result (Unit {0}) ListenFault
path_fault [] = Err Empty
path_fault (b ∷ bs) = if nat_lt 103 (length (b ∷ bs)) then Err Long else Ok tt

-- Why a hub can't be reached.
use Rattle.std.specs.Prelude.{ℕ, List, ◌++◌, codes, Bool, true, false}
use Rattle.std.specs.declared.io.ErrorKind.{ErrorKind}
use Rattle.std.specs.declared.io.ErrorKind.TheVariants.{NotFound, NotADirectory, PermissionDenied, ConnectionRefused, WouldBlock, InvalidInput}
use Rattle.hub_endings.specs.declared.reach_fault.ReachFault.{ReachFault}
use Rattle.hub_endings.specs.declared.reach_fault.ReachFault.TheVariants.{NoFile, NotFolder, Denied, Nobody, Full, Path, Other}
use Rattle.hub_endings.specs.declared.reach_fault.Unreached.{Unreached}

-- why a hub can't be reached if the system refuses the connection with an error of this kind
abbrev pub reach_fault_of : ErrorKind → ReachFault
reach_fault_of NotFound = NoFile
reach_fault_of NotADirectory = NotFolder
reach_fault_of PermissionDenied = Denied
reach_fault_of ConnectionRefused = Nobody
reach_fault_of WouldBlock = Full
reach_fault_of InvalidInput = Path
reach_fault_of kind = Other

-- whether a hub may be there later
abbrev pub is_absence : ReachFault → Bool
is_absence NoFile = true
is_absence Nobody = true
is_absence Full = true
is_absence why = false

-- the text of why a hub can't be reached
abbrev pub reach_text : ReachFault → List ℕ
reach_text NoFile = codes "no such file"
reach_text NotFolder = codes "not a directory"
reach_text Denied = codes "permission denied"
reach_text Nobody = codes "nobody listens there"
reach_text Full = codes "no room for one more connection"
reach_text Path = codes "the path is empty, or has more than 107 bytes"
reach_text Other = codes "the system refuses it"

-- the text of a hub that can't be reached
abbrev pub unreached_text : Unreached → List ℕ
unreached_text it = codes "cannot connect to " ++ (it.socket.bytes.items ++ (codes ": " ++ reach_text it.why))

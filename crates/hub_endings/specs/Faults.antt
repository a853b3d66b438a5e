-- The lines of faults.
use Rattle.std.specs.Prelude.{ℕ, suc, List, [], ◌∷◌, ◌++◌, codes, Bool, true, false, Result, Ok, Err}
use Rattle.std.specs.Fmt.{decimal}
use Rattle.hub_ask.specs.Faults.{ask_text}
use Rattle.hub_client.specs.Faults.{relay_text}
use Rattle.hub_endings.specs.declared.fault.Fault.{Fault}
use Rattle.hub_endings.specs.declared.fault.Fault.TheVariants.{Listen, Taken, Notify, Setup, SetupLine, Lost, Look, Accept, Connect, Reach, Memory, Script, Serve, Session, Relay, Ask}
use Rattle.hub_endings.specs.declared.listen_fault.ListenFault.{ListenFault}
use Rattle.hub_endings.specs.declared.listen_fault.ListenFault.TheVariants as listening
use Rattle.hub_endings.specs.declared.listen_fault.ListenFault.TheVariants.{Untold, NoFolder, NotFolder, Denied, Empty, Long, Another, Lock, Names, Shared, Umask, ReadOnly, Space}
use Rattle.hub_endings.specs.declared.look_fault.LookFault.{LookFault}
use Rattle.hub_endings.specs.declared.look_fault.LookFault.TheVariants as looking
use Rattle.hub_io.specs.Faults.{fault_text}
use Rattle.std.specs.declared.io.ErrorKind.{ErrorKind}
use Rattle.std.specs.declared.io.ErrorKind.TheVariants.{NotFound, NotADirectory, PermissionDenied, ReadOnlyFilesystem, StorageFull, QuotaExceeded, OutOfMemory}
use Rattle.hub_io.specs.declared.fault.FrontError.{FrontError}
use Rattle.hub_io.specs.declared.fault.FrontError.TheVariants as passing
use Rattle.hub_reports.specs.Reports.{serve_text}
use Rattle.hub_requests.specs.Texts.{word_of}
use Rattle.hub_endings.specs.Reaching.{reach_text}
use Rattle.hub_endings.specs.declared.refused_line.RefusedLine.{RefusedLine}

-- the text of a line that was refused
abbrev pub refused_text : RefusedLine → List ℕ
refused_text at = codes "setup line " ++ decimal at.number ++ codes ": no " ++ word_of at.refusal

-- the text of why a server can't listen
abbrev pub listen_text : ListenFault → List ℕ
listen_text Untold = codes "cannot listen"
listen_text NoFolder = codes "cannot listen: no such directory"
listen_text NotFolder = codes "cannot listen: not a directory"
listen_text Denied = codes "cannot listen: permission denied"
listen_text Empty = codes "cannot listen: the path is empty"
listen_text Long = codes "cannot listen: the path is too long (at most 103 bytes)"
listen_text Another = codes "cannot listen: a file that isn't a socket"
listen_text Lock = codes "cannot listen: SOCKET.lock isn't an ordinary file of this user"
listen_text Names = codes "cannot listen: SOCKET.a to SOCKET.z are taken"
listen_text Shared = codes "cannot listen: no mode can be set where others may write to the directory"
listen_text Umask = codes "cannot listen: the umask takes this user's own rights"
listen_text ReadOnly = codes "cannot listen: read-only file system"
listen_text Space = codes "cannot listen: no space left"
listen_text listening.Memory = codes "cannot listen: out of memory"

-- why a server can't listen if the system refuses a file with an error of this kind
abbrev pub listen_fault_of : ErrorKind → ListenFault
listen_fault_of NotFound = NoFolder
listen_fault_of NotADirectory = NotFolder
listen_fault_of PermissionDenied = Denied
listen_fault_of ReadOnlyFilesystem = ReadOnly
listen_fault_of StorageFull = Space
listen_fault_of QuotaExceeded = Space
listen_fault_of OutOfMemory = listening.Memory
listen_fault_of kind = Untold

-- the text of a fault of the second socket
abbrev pub look_fault_text : LookFault → List ℕ
look_fault_text (looking.Listen fault) = listen_text fault ++ codes " (--look)"
look_fault_text looking.Taken = codes "another server listens there (--look)"
look_fault_text looking.Same = codes "the path is that of the first socket (--look)"
look_fault_text looking.Lost = codes "socket file lost (--look)"

-- the same fault of the second socket, if it is one of a socket
abbrev pub look_fault : Fault → Fault
look_fault (Listen fault) = Look (looking.Listen fault)
look_fault Taken = Look looking.Taken
look_fault Lost = Look looking.Lost
look_fault other = other

-- the text of a fault
abbrev pub text_of : Fault → List ℕ
text_of (Listen fault) = listen_text fault
text_of Taken = codes "another server listens there"
text_of Notify = codes "cannot notify"
text_of Setup = codes "cannot read the setup"
text_of (SetupLine line) = refused_text line
text_of Lost = codes "socket file lost"
text_of (Look fault) = look_fault_text fault
text_of Accept = codes "cannot accept"
text_of Connect = codes "cannot connect"
text_of (Reach why) = codes "cannot connect: " ++ reach_text why
text_of Memory = fault_text passing.Memory
text_of (Script fault) = fault_text fault
text_of (Serve fault) = serve_text fault
text_of (Session number fault) = codes "session " ++ decimal number ++ codes ": " ++ fault_text fault
text_of (Relay fault) = relay_text fault
text_of (Ask fault) = ask_text fault

-- the line with this text, and its LF
abbrev pub line_with : (text : List ℕ) → List ℕ
line_with text = codes "ftrighub: " ++ text ++ 10 ∷ []

-- the line of a fault
abbrev pub line_of : Fault → List ℕ
line_of fault = line_with (text_of fault)

-- the line of the session with this number and this result, if it stopped
abbrev pub session_line : (number : ℕ) → Result ℕ FrontError → List ℕ
session_line number (Ok lines) = []
session_line number (Err fault) = line_of (Session number fault)

-- the lines of the sessions that stopped, if the first of these results is that of the session with this number
abbrev pub session_lines : (number : ℕ) → List (Result ℕ FrontError) → List ℕ
session_lines number [] = []
session_lines number (result ∷ results) = session_line number result ++ session_lines (suc number) results

-- the line of a gate that failed
abbrev pub gate_line : (failed : Bool) → List ℕ
gate_line true = line_of Accept
gate_line false = []

-- The lines of a report: one for each session that stopped, in order, and one if the gate failed. Sessions are numbered
-- from 1.
abbrev pub report_lines : List (Result ℕ FrontError) → (failed : Bool) → List ℕ
report_lines results failed = session_lines 1 results ++ gate_line failed

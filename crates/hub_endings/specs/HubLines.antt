-- What a hub that lives says: the lines of its log.
use Rattle.std.specs.Prelude.{ℕ, List, [], ◌++◌, codes, Bool, true, false, Option, None, Some}
use Rattle.std.specs.Fmt.{decimal, digits}
use Rattle.hub_endings.specs.Faults.{text_of}
use Rattle.hub_endings.specs.declared.hub_line.HubLine.{HubLine}
use Rattle.hub_endings.specs.declared.hub_line.HubLine.TheVariants.{Stopped, More, Wills, Full, LookFull, Restored, LookRestored, Failed}
use Rattle.hub_endings.specs.declared.listening.LookListening.{LookListening}
use Rattle.hub_endings.specs.declared.stop_cause.StopCause.{StopCause}
use Rattle.hub_endings.specs.declared.stop_cause.StopCause.TheVariants.{Read, Write, Turns, Memory, Silent, Deaf}
use Rattle.hub_io.specs.declared.fault.FrontError.{FrontError}
use Rattle.hub_io.specs.declared.fault.FrontError.TheVariants as passing

-- why a session stopped with this error
abbrev pub stop_cause : FrontError → (timed_out : Bool) → StopCause
stop_cause passing.Read true = Silent
stop_cause passing.Read false = Read
stop_cause passing.Write true = Deaf
stop_cause passing.Write false = Write
stop_cause passing.Turns timed_out = Turns
stop_cause passing.Memory timed_out = Memory

-- the text of a cause
abbrev pub cause_text : StopCause → List ℕ
cause_text Read = codes "could not read from its client"
cause_text Write = codes "its client left before it read its reply"
cause_text Turns = codes "too many reads"
cause_text Memory = codes "out of memory"
cause_text Silent = codes "no whole line came (--idle)"
cause_text Deaf = codes "its reply was not taken (--idle)"

-- the text of what a hub says while it goes on
abbrev pub hub_text : HubLine → List ℕ
hub_text (Stopped number seconds lines cause) =
    codes "session " ++ (decimal number ++ (codes " stopped after " ++ (decimal seconds ++ (codes " s (lines: " ++ (decimal lines ++ (codes "): " ++ cause_text cause))))))
hub_text (More sessions) = decimal sessions ++ codes " more sessions stopped"
hub_text (Wills wills) = decimal wills ++ codes " wills not carried out"
hub_text (Full sessions) = codes "all " ++ decimal sessions ++ codes " sessions are taken, and clients wait"
hub_text LookFull = codes "no session is free for those who only look, and clients wait"
hub_text Restored = codes "socket file restored"
hub_text LookRestored = codes "socket file restored (--look)"
hub_text (Failed fault) = text_of fault

-- the text of the second socket of a hub, if it has one
abbrev pub look_text : Option LookListening → List ℕ
look_text None = []
look_text (Some look) =
    codes ", and at " ++ (look.socket.now ++ (codes " for those who only look (mode 0" ++ (digits 8 false look.mode
    ++ (codes ", at most " ++ (decimal look.sessions ++ codes " of these)")))))

-- the text of a hub that listens, with the mode in octal digits
abbrev pub listening_text : (version socket : List ℕ) (mode : Option ℕ) (sessions : ℕ) → Option LookListening → List ℕ
listening_text version socket None sessions look =
    version ++ (codes " listens at " ++ (socket ++ (codes " (" ++ (decimal sessions ++ (codes " sessions)" ++ look_text look)))))
listening_text version socket (Some mode) sessions look =
    version ++ (codes " listens at " ++ (socket ++ (codes " (mode 0" ++ (digits 8 false mode ++ (codes ", " ++ (decimal sessions
    ++ (codes " sessions)" ++ look_text look)))))))

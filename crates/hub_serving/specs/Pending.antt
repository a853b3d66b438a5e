-- What a hub that lives tells of its sessions.
use Rattle.std.specs.Prelude.{ℕ, zero, suc, Option, None, Some, flat_map, List, [], ◌++◌, Bool, Result, Ok, Err}
use Rattle.hub_endings.specs.Faults.{line_with}
use Rattle.hub_endings.specs.HubLines.{hub_text, stop_cause}
use Rattle.hub_endings.specs.declared.hub_line.HubLine.{HubLine}
use Rattle.hub_endings.specs.declared.hub_line.HubLine.TheVariants.{Stopped, More, Wills}
use Rattle.hub_serving.specs.declared.watching.Pending.{Pending}
use Rattle.hub_io.specs.declared.fault.FrontError.{FrontError}

-- a line with its LF, if there is one
abbrev pub line_if : Option HubLine → List ℕ
line_if None = []
line_if (Some line) = line_with (hub_text line)

-- what is told of the session with this number, which ran for so many seconds, had so many lines and ended so, if it stopped
abbrev pub line_if_stopped : (number seconds lines : ℕ) → Result ℕ FrontError → (timed_out : Bool) → Option HubLine
line_if_stopped number seconds lines (Ok served) timed_out = None
line_if_stopped number seconds lines (Err error) timed_out = Some (Stopped number seconds lines (stop_cause error timed_out))

-- the line that counts the sessions that aren't told one by one
abbrev pub rest_of : (sessions : ℕ) → Option HubLine
rest_of zero = None
rest_of (suc sessions) = Some (More (suc sessions))

-- the line that counts the wills that weren't carried out
abbrev pub line_of_wills : (wills : ℕ) → Option HubLine
line_of_wills zero = None
line_of_wills (suc wills) = Some (Wills (suc wills))

-- the lines that are pending, and the one of the rest
abbrev pub pending_lines : Pending → List ℕ
pending_lines pending = flat_map line_if pending.lines ++ line_if (rest_of pending.more)

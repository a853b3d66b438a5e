-- How the program ends: its exit status, and its last lines on standard error.
use Rattle.std.specs.Prelude.{ℕ, List, [], ◌∷◌, ◌++◌, codes, Result, Ok, Err}
use Rattle.hub_endings.specs.BadWords.{bad_text}
use Rattle.hub_endings.specs.Faults.{line_of, line_with, report_lines}
use Rattle.hub_endings.specs.Reaching.{unreached_text}
use Rattle.hub_endings.specs.declared.ending.Ending.{Ending}
use Rattle.hub_endings.specs.declared.ending.Ending.TheVariants.{Refused, Stopped, Unreached, Failed}

-- the exit status
abbrev pub exit_status : Result ℕ Ending → ℕ
exit_status (Ok status) = status
exit_status (Err (Refused _)) = 2
exit_status (Err (Stopped _)) = 1
exit_status (Err (Unreached _)) = 1
exit_status (Err (Failed _)) = 1

-- the lines on what went wrong
abbrev pub last_lines : Result ℕ Ending → List ℕ
last_lines (Ok _) = []
last_lines (Err (Refused it)) = codes "ftrighub: " ++ bad_text it ++ 10 ∷ []
last_lines (Err (Stopped report)) = report_lines report.results.items report.gate_failed
last_lines (Err (Unreached hub)) = line_with (unreached_text hub)
last_lines (Err (Failed fault)) = line_of fault

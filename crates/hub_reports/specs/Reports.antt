-- The texts of errors.
use Rattle.std.specs.Prelude.{ℕ, List, codes}
use Rattle.hub_io.specs.Faults.{fault_text}
use Rattle.hub_io.specs.declared.fault.FrontError.TheVariants as passing
use Rattle.hub_reports.specs.declared.report.ServeError.{ServeError}
use Rattle.hub_reports.specs.declared.report.ServeError.TheVariants.{Spawn, Memory}

-- the text of why sessions couldn't be served
abbrev pub serve_text : ServeError → List ℕ
serve_text (Spawn refused) = codes "cannot start a session"
serve_text Memory = fault_text passing.Memory

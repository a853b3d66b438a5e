-- Why a server ended before it had a report.
use Rattle.std.specs.Prelude.{◌≡◌, ⊤}
use Rattle.hub_endings.specs.declared.fault.Fault.{Fault}
use Rattle.hub_endings.specs.declared.fault.Fault.TheVariants.{Listen, Taken, Notify, Setup, SetupLine, Lost, Look, Accept, Connect, Reach, Memory, Script, Serve, Session, Relay, Ask}
use Rattle.hub_endings.specs.declared.listen_fault.ListenFault.TheVariants.{Untold}
use Rattle.hub_reports.specs.declared.report.ServeError.{ServeError}

-- it couldn't listen and doesn't tell why, memory ran out before the first session, or its sessions stopped so
abbrev pub FailsToServe : (ServeError → Type 0) → Fault → Type 0
FailsToServe stops (Listen why) = why ≡ Untold
FailsToServe stops Memory = ⊤
FailsToServe stops (Serve error) = stops error
FailsToServe stops Taken = ⊥
FailsToServe stops Notify = ⊥
FailsToServe stops Setup = ⊥
FailsToServe stops (SetupLine line) = ⊥
FailsToServe stops Lost = ⊥
FailsToServe stops (Look fault) = ⊥
FailsToServe stops Accept = ⊥
FailsToServe stops Connect = ⊥
FailsToServe stops (Reach why) = ⊥
FailsToServe stops (Script fault) = ⊥
FailsToServe stops (Session number fault) = ⊥
FailsToServe stops (Relay error) = ⊥
FailsToServe stops (Ask error) = ⊥

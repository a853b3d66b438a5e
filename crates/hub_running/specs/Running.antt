-- What the program does with a plan.
use Rattle.std.specs.Prelude.{◌≡◌, ◌⊎◌, ℕ, List, All, IsOk, IfOk, IfErr, true, false, Option, None, Some, Result, Ok, Err}
use Rattle.hub_arguments.specs.declared.command_line.Plan.{Plan}
use Rattle.hub_arguments.specs.declared.command_line.Plan.TheVariants as plan
use Rattle.hub_ask.specs.Lines.{joined}
use Rattle.hub_commands.specs.Asking.{Asks}
use Rattle.hub_dialing.specs.Calls.{Calling, IsCall}
use Rattle.hub_dialing.specs.Dialing.{Dialing}
use Rattle.hub_commands.specs.Holding.{HoldsAsTold}
use Rattle.hub_showing.specs.Following.{FollowsAsTold}
use Rattle.hub_showing.specs.Looking.{ShowsStatus}
use Rattle.hub_commands.specs.Making.{MakesAsTold}
use Rattle.hub_commands.specs.Telling.{TellsAsTold}
use Rattle.hub_commands.specs.Waiting.{WaitsAsTold, wishing}
use Rattle.hub_endings.specs.declared.ending.BadWords.TheVariants as bad
use Rattle.hub_endings.specs.declared.ending.Ending.{Ending}
use Rattle.hub_endings.specs.declared.ending.Ending.TheVariants.{Refused, Stopped, Unreached, Failed}
use Rattle.hub_endings.specs.declared.fault.Fault.{Fault}
use Rattle.hub_endings.specs.declared.fault.Fault.TheVariants.{Script, Memory, Reach}
use Rattle.hub_endings.specs.declared.reach_fault.ReachFault.{ReachFault}
use Rattle.hub_io.specs.declared.fault.FrontError.{FrontError}
use Rattle.hub_script.specs.Output.{Serves, Stops}
use Rattle.hub_io.specs.Counted.{Reading, Writing}
use Rattle.hub_reports.specs.declared.report.Report.{Report}

-- what the program has: a dialer, and its three streams
pub record Hands (D R W F : Type 0) : Type 0 where
  pub dialer : D
  pub input : R
  pub output : W
  pub notes : F

-- how the program ends after this result: with status 0, or with the fault
abbrev pub ending_of : {T : Type 0} → Result T Fault → Result ℕ Ending
ending_of (Ok done) = Ok 0
ending_of (Err fault) = Err (Failed fault)

-- the same of a script
abbrev pub script_ending : Result ℕ FrontError → Result ℕ Ending
script_ending (Ok lines) = Ok 0
script_ending (Err error) = Err (Failed (Script error))

-- every session ended with its input, and the gate didn't fail
abbrev pub IsClean : Report → Type 0
IsClean report = All IsOk report.results.items × (report.gate_failed ≡ false)

-- A report ends the program with status 0 if it is clean, and else with its faults.
abbrev pub Judges : Report → Result ℕ Ending → Type 0
Judges report result = (IsClean report × (result ≡ Ok 0)) ⊎ ((IsClean report → ⊥) × (result ≡ Err (Stopped report)))

-- `serve` ended with a report, which is judged, or with a fault
abbrev pub JudgesOrFails : Result ℕ Ending → Type 0
JudgesOrFails result = ((report : Report) × Judges report result) ⊎ ((fault : Fault) × (result ≡ Err (Failed fault)))

-- `call` called this socket
pub record Calls {D CR CW R W : Type 0} (c : Calling D CR CW) (old new : D) (socket : List ℕ) (r : Reading R) (w : Writing W) (input rest : R) (output written : W)
    (result : Result ℕ Ending) : Type 0 where
  pub called : Result ℕ Fault
  pub ended : result ≡ ending_of called
  pub calls : IsCall c old new socket r w input rest output written called

-- `script` answered its input
pub record Scripts {R W : Type 0} (r : Reading R) (w : Writing W) (input rest : R) (output written : W) (result : Result ℕ Ending) : Type 0 where
  pub scripted : Result ℕ FrontError
  pub ended : result ≡ script_ending scripted
  pub served : IfOk scripted (Serves (w.contents output) (w.contents written) (r.remaining input) (r.remaining rest))
  pub stopped : IfErr scripted (Stops (w.contents output) (w.contents written) (r.remaining input) (r.remaining rest))

-- What is done with each plan. What a plan doesn't need is as it was.
abbrev pub CarriesOut : {D SR SW CR CW R W F : Type 0} → Dialing D SR SW → Calling D CR CW → Reading R → Writing W → Writing F → (old new : Hands D R W F) → Plan → Result ℕ Ending → Type 0
CarriesOut d c r w n old new plan.Script result =
    Scripts r w old.input new.input old.output new.output result × (new.dialer ≡ old.dialer) × (new.notes ≡ old.notes)
CarriesOut d c r w n old new (plan.Serve socket sessions) result = JudgesOrFails result × (new ≡ old)
CarriesOut d c r w n old new (plan.ServeForever options) result =
    ((result ≡ Ok 0) ⊎ ((fault : Fault) × (result ≡ Err (Failed fault))))
    × (new.dialer ≡ old.dialer) × (new.input ≡ old.input) × (new.output ≡ old.output)
CarriesOut d c r w n old new (plan.Call socket) result =
    Calls c old.dialer new.dialer socket.now r w old.input new.input old.output new.output result × (new.notes ≡ old.notes)
CarriesOut d c r w n old new (plan.Ask socket words) result =
    Asks d old.dialer new.dialer socket.now (joined (λ word. word.now) words.items) n old.notes new.notes (new.output ≡ old.output)
    (w.contents old.output) (w.contents new.output) result
    × (new.input ≡ old.input)
CarriesOut d c r w n old new (plan.Wait socket wish) result =
    WaitsAsTold d (wishing socket.now wish) (λ text. text.now) wish.timeout old.dialer new.dialer (new.output ≡ old.output)
    (w.contents old.output) (w.contents new.output) ((new.output ≡ old.output) × (new.notes ≡ old.notes)) result
    × (wish.is_quiet ≡ true → (new.output ≡ old.output) × (new.notes ≡ old.notes)) × (new.input ≡ old.input)
CarriesOut d c r w n old new (plan.Status socket names is_json) result =
    ShowsStatus d old.dialer new.dialer socket.now n old.notes new.notes (λ name. name.now) is_json names.items
    ((new.output ≡ old.output) × (new.notes ≡ old.notes)) (w.contents old.output) (w.contents new.output) result
    × (new.input ≡ old.input)
CarriesOut d c r w n old new (plan.Follow socket follow) result =
    FollowsAsTold d socket.now n (record { dialer = old.dialer; notes = old.notes; held = w.contents old.output })
    (record { dialer = new.dialer; notes = new.notes; held = w.contents new.output }) follow (new.output ≡ old.output) result
    × (new.input ≡ old.input)
CarriesOut d c r w n old new (plan.Tell socket name state) result =
    TellsAsTold d old.dialer new.dialer socket.now n old.notes new.notes name.now state result
    × (new.input ≡ old.input) × (new.output ≡ old.output)
CarriesOut d c r w n old new (plan.Hold socket hold) result =
    HoldsAsTold d old.dialer new.dialer socket.now n old.notes new.notes r old.input new.input hold.name.now hold.will hold.told result
    × (new.output ≡ old.output)
CarriesOut d c r w n old new (plan.Make socket names shape) result =
    MakesAsTold d old.dialer new.dialer socket.now n old.notes new.notes (λ name. name.now) names.items shape result
    × (new.input ≡ old.input) × (new.output ≡ old.output)

-- the socket of the hub that a command asks; `call` isn't one of these
abbrev pub hub_of : Plan → Option (List ℕ)
hub_of (plan.Ask socket words) = Some socket.now
hub_of (plan.Wait socket wish) = Some socket.now
hub_of (plan.Status socket names is_json) = Some socket.now
hub_of (plan.Follow socket follow) = Some socket.now
hub_of (plan.Tell socket name state) = Some socket.now
hub_of (plan.Hold socket hold) = Some socket.now
hub_of (plan.Make socket names shape) = Some socket.now
hub_of other = None

-- It names the socket of a hub that couldn't be reached, and why. Or memory ran out.
abbrev pub Names : (socket : List ℕ) → (why : ReachFault) → Result ℕ Ending → Type 0
Names socket why (Err (Unreached hub)) = (hub.socket.bytes.items ≡ socket) × (hub.why ≡ why)
Names socket why (Err (Failed fault)) = fault ≡ Memory
Names socket why other = ⊥

-- how the program ends after a command that asks the hub at a socket, or none, and ended so
abbrev pub IsNamed : (socket : Option (List ℕ)) → (ended result : Result ℕ Ending) → Type 0
IsNamed (Some socket) (Err (Failed (Reach why))) result = Names socket why result
IsNamed socket ended result = result ≡ ended

-- How the program ends without a plan: its words ask for a text, are none or are refused, lack a socket, or there was a fault before.
abbrev pub EndsEarly : Result ℕ Ending → Type 0
EndsEarly (Ok status) = (status ≡ 0) ⊎ (status ≡ 2)
EndsEarly (Err (Refused words)) = (words ≡ bad.NotText) ⊎ (words ≡ bad.NoSocket)
EndsEarly (Err (Stopped report)) = ⊥
EndsEarly (Err (Unreached hub)) = ⊥
EndsEarly (Err (Failed fault)) = (fault ≡ Memory) ⊎ ((error : FrontError) × (fault ≡ Script error))

-- What the program does: it carries out a plan, or ends before it has one, and then it touches nothing.
abbrev pub Runs : {D SR SW CR CW R W F : Type 0} → Dialing D SR SW → Calling D CR CW → Reading R → Writing W → Writing F → (old new : Hands D R W F) → Result ℕ Ending → Type 0
Runs d c r w n old new result = ((plan : Plan) × (ended : Result ℕ Ending) × CarriesOut d c r w n old new plan ended × IsNamed (hub_of plan) ended result) ⊎ (EndsEarly result × (new ≡ old))

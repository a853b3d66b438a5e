-- What a call does.
use Rattle.std.specs.Prelude.{◌≡◌, ◌⊎◌, ℕ, List, Option, Result, Ok, Err, IfOk, IfErr}
use Rattle.hub_client.specs.Faults.{input_faults, output_faults, receive_faults, send_faults}
use Rattle.hub_client.specs.Relaying.{Finished, Stopped, ReadsWithin}
use Rattle.hub_client.specs.declared.fault.RelayError.{RelayError}
use Rattle.hub_client.specs.declared.fault.RelayError.TheVariants as relay
use Rattle.hub_endings.specs.declared.fault.Fault.{Fault}
use Rattle.hub_endings.specs.declared.fault.Fault.TheVariants.{Relay}
use Rattle.hub_io.specs.Telling.{Rises}
use Rattle.hub_io.specs.Counted.{Reading, Writing}

-- the result of a call whose relay ended so
abbrev pub call_result : Result ℕ RelayError → Result ℕ Fault
call_result (Ok count) = Ok count
call_result (Err error) = Err (Relay error)

-- how a call connects: the dialer before, the path of the socket, the two halves of a connection or a fault, the dialer after
abbrev pub Connecting : (D CR CW : Type 0) → Type 1
Connecting D CR CW = D → (socket : List ℕ) → Result (CR × CW) Fault → D → Type 0

-- a dialer of calls, and what is counted of the streams of its connections
pub record Calling (D CR CW : Type 0) : Type 1 where
  pub connects : Connecting D CR CW
  pub hears : Reading CR
  pub tells : Writing CW

abbrev pub calling : {D CR CW : Type 0} → Connecting D CR CW → (remaining : CR → Option (List ℕ)) → (reads faults : CR → Option ℕ)
    → (contents : CW → Option (List ℕ)) → (faults' : CW → Option ℕ) → Calling D CR CW
calling connects remaining reads faults contents faults' = record {
  connects = connects;
  hears = record { remaining = remaining; reads = reads; faults = faults };
  tells = record { contents = contents; faults = faults' };
}

-- One connection was made, to this socket, and the relay between these streams and the connection ended so.
pub record IsRelayed {D CR CW R W : Type 0} (c : Calling D CR CW) (old new : D) (socket : List ℕ) (r : Reading R) (w : Writing W)
    (input rest : R) (output written : W) (outcome : Result ℕ RelayError) : Type 0 where
  pub receive : CR
  pub receives : CR
  pub send : CW
  pub sends : CW
  pub connected : c.connects old socket (Ok (receive, send)) new
  pub finished : IfOk outcome (Finished (r.remaining input) (r.remaining rest) (c.tells.contents send) (c.tells.contents sends)
      (c.hears.remaining receive) (c.hears.remaining receives) (w.contents output) (w.contents written))
  pub stopped : IfErr outcome (Stopped (r.remaining input) (r.remaining rest) (c.tells.contents send) (c.tells.contents sends)
      (c.hears.remaining receive) (c.hears.remaining receives) (w.contents output) (w.contents written))
  pub memory : outcome ≡ Err relay.Memory → (rest ≡ input) × (written ≡ output) × (receives ≡ receive) × (sends ≡ send)
  pub reads : ReadsWithin (r.reads input) (r.reads rest) (c.hears.reads receive) (c.hears.reads receives) outcome
  pub input_faults : Rises (r.faults input) (r.faults rest) (input_faults outcome)
  pub output_faults : Rises (w.faults output) (w.faults written) (output_faults outcome)
  pub send_faults : Rises (c.tells.faults send) (c.tells.faults sends) (send_faults outcome)
  pub receive_faults : Rises (c.hears.faults receive) (c.hears.faults receives) (receive_faults outcome)

-- A call of this socket: no connection came about, and nothing was read or written. Or its input was relayed over one.
abbrev pub IsCall : {D CR CW R W : Type 0} → Calling D CR CW → (old new : D) → (socket : List ℕ) → Reading R → Writing W
    → (input rest : R) → (output written : W) → Result ℕ Fault → Type 0
IsCall c old new socket r w input rest output written result =
    ((fault : Fault) × (result ≡ Err fault) × c.connects old socket (Err fault) new × (rest ≡ input) × (written ≡ output))
    ⊎ ((outcome : Result ℕ RelayError) × (result ≡ call_result outcome) × IsRelayed c old new socket r w input rest output written outcome)

-- The stream of each fault.
use Rattle.std.specs.Prelude.{ℕ, List, codes, Result, Err}
use Rattle.hub_io.specs.Faults.{fault_text}
use Rattle.hub_io.specs.declared.fault.FrontError.{FrontError}
use Rattle.hub_io.specs.declared.fault.FrontError.TheVariants as passing
use Rattle.hub_client.specs.declared.fault.RelayError.{RelayError}
use Rattle.hub_client.specs.declared.fault.RelayError.TheVariants.{Input, Output, Send, Receive, Ended, Turns, Memory}

-- the error for a fault between the input and the peer
abbrev pub sending : FrontError → RelayError
sending passing.Read = Input
sending passing.Write = Send
sending passing.Turns = Turns
sending passing.Memory = Memory

-- the error for a fault between the peer and the output
abbrev pub receiving : FrontError → RelayError
receiving passing.Read = Receive
receiving passing.Write = Output
receiving fault = sending fault

-- the faults of the input's reader: a relay stops at the first
abbrev pub input_faults : {T : Type 0} → Result T RelayError → ℕ
input_faults (Err Input) = 1
input_faults result = 0

-- the faults of the output's writer
abbrev pub output_faults : {T : Type 0} → Result T RelayError → ℕ
output_faults (Err Output) = 1
output_faults result = 0

-- the faults of the writer to the peer
abbrev pub send_faults : {T : Type 0} → Result T RelayError → ℕ
send_faults (Err Send) = 1
send_faults result = 0

-- the faults of the reader of the peer's stream
abbrev pub receive_faults : {T : Type 0} → Result T RelayError → ℕ
receive_faults (Err Receive) = 1
receive_faults result = 0

-- the text of a fault
abbrev pub relay_text : RelayError → List ℕ
relay_text Input = fault_text passing.Read
relay_text Output = fault_text passing.Write
relay_text Send = codes "send failed"
relay_text Receive = codes "receive failed"
relay_text Ended = codes "connection ended"
relay_text Turns = fault_text passing.Turns
relay_text Memory = fault_text passing.Memory

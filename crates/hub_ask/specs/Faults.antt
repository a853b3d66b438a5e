-- The text of each error.
use Rattle.std.specs.Prelude.{◌≡◌, ⊤, ℕ, List, codes, Bool, true, Option, Some, Result, Ok, Err}
use Rattle.hub_client.specs.Faults.{relay_text}
use Rattle.hub_client.specs.declared.fault.RelayError.{RelayError}
use Rattle.hub_client.specs.declared.fault.RelayError.TheVariants.{Output, Send, Receive, Memory}
use Rattle.hub_ask.specs.declared.fault.AskError.{AskError}
use Rattle.hub_ask.specs.declared.peer.Halt.{Halt}
use Rattle.hub_ask.specs.declared.peer.Halt.TheVariants as halt
use Rattle.hub_ask.specs.declared.fault.AskError.TheVariants.{Relay, NoAnswer, Unknown, Words}

-- the text of an error
abbrev pub ask_text : AskError → List ℕ
ask_text (Relay error) = relay_text error
ask_text NoAnswer = codes "no answer"
ask_text Unknown = codes "unknown reply"
ask_text Words = codes "a word has a line feed"

-- the error of a relay that writes to memory: a write fails if there is none left
abbrev pub in_memory : RelayError → RelayError
in_memory Output = Memory
in_memory error = error

-- the error of an exchange whose relay stopped so: late says whether the writer to the peer was late, and halt why the reader of its
-- replies gave no more
abbrev pub of_exchange : RelayError → (late : Bool) → (halt : Option Halt) → AskError
of_exchange Send true halt = NoAnswer
of_exchange Receive late (Some halt.Late) = NoAnswer
of_exchange Receive late (Some halt.Overlong) = Unknown
of_exchange error late halt = Relay (in_memory error)

-- The result of a relay, as an exchange tells it: a reply, or this error.
abbrev pub IsToldAs : {T Reply : Type 0} → Result T RelayError → Result Reply AskError → Type 0
IsToldAs (Ok count) (Ok reply) = ⊤
IsToldAs (Ok count) (Err error) = ⊥
IsToldAs (Err stopped) (Ok reply) = ⊥
IsToldAs (Err stopped) (Err error) = (late : Bool) × (halt : Option Halt) × (error ≡ of_exchange stopped late halt)

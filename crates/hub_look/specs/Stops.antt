-- Why a command ends before its work is done.
use Rattle.std.specs.Prelude.{◌≡◌, ◌≢◌, ◌⊎◌, Bool, true}
use Rattle.hub_client.specs.declared.fault.RelayError.TheVariants as relay
use Rattle.hub_ask.specs.declared.fault.AskError.{AskError}
use Rattle.hub_ask.specs.declared.fault.AskError.TheVariants as ask
use Rattle.hub_ask.specs.declared.outcome.Outcome.{Outcome}
use Rattle.hub_ask.specs.declared.outcome.Outcome.TheVariants.{Late, Refused}
use Rattle.hub_look.specs.declared.stop.Stop.{Stop}
use Rattle.hub_look.specs.declared.stop.Stop.TheVariants.{Fault, Reply}

-- a fault, but not of the output
abbrev pub IsOwnFault : Stop → Type 0
IsOwnFault stop = (error : AskError) × (stop ≡ Fault error) × (error ≢ ask.Relay relay.Output)

-- a fault of which this holds
abbrev pub IsFaultOf : (AskError → Type 0) → Stop → Type 0
IsFaultOf P stop = (error : AskError) × (stop ≡ Fault error) × P error

-- a refusal of the hub, and this holds
abbrev pub IsRefusal : Stop → Type 0 → Type 0
IsRefusal stop holds = (stop ≡ Reply Refused) × holds

-- a fault that isn't of the output, or a refusal
abbrev pub IsOwnStop : Stop → Type 0
IsOwnStop stop = IsOwnFault stop ⊎ (stop ≡ Reply Refused)

-- A stop has this outcome: the one of its reply. Or no answer came, and there was a time that was over.
abbrev pub StopsWith : (is_timed : Bool) → Stop → Outcome → Type 0
StopsWith is_timed stop went = (stop ≡ Reply went) ⊎ ((went ≡ Late) × (is_timed ≡ true) × (stop ≡ Fault ask.NoAnswer))

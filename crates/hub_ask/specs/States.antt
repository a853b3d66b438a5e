-- The status that a state tells.
use Rattle.hub_record.specs.declared.Status.{Status}
use Rattle.hub_ask.specs.declared.state.State.{State}

abbrev pub status_told : State → Status
status_told state = record { number = state.events; flags = state.flags; closed = state.is_closed }

use Rattle.std.proofs.Common.{refl}
use Rattle.hub_look.specs.Stops.{IsOwnStop}
use Rattle.hub_look.proofs.Judged.{memory_stops, stops_so}
use Rattle.hub_look.proofs.subscribing.subscribe_by.Goals as goal

pub returns-clause-ok : goal.returns-clause-ok
returns-clause-ok g c = record { handled = c.in_ok-handle.ensures.ok; new = record { named = c.in_ok-from_str.ensures.ok; number = refl; lasts = refl } }

pub returns-in_err-handle-clause-err : goal.returns-in_err-handle-clause-err
returns-in_err-handle-clause-err g c = stops_so IsOwnStop _ c.in_err-handle.field-0.0 c.from_residual.ensures.1 c.in_err-handle.ensures.err

pub returns-in_err-from_str-clause-err : goal.returns-in_err-from_str-clause-err
returns-in_err-from_str-clause-err g c = memory_stops _ c.from_residual-in_err-from_str.ensures.1

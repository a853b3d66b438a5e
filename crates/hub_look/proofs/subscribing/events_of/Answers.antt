use Rattle.hub_look.proofs.Judged.{stops_by_fault}
use Rattle.hub_look.proofs.Subscribed.{counted}
use Rattle.hub_look.proofs.subscribing.events_of.Goals as goal

pub returns-in_err-status-clause-err : goal.returns-in_err-status-clause-err
returns-in_err-status-clause-err g c = stops_by_fault _ c.in_err-status.field-0.0 c.from_residual.ensures.1 c.in_err-status.ensures.err

pub returns-in-Ok-clause-ok : goal.returns-in-Ok-clause-ok
returns-in-Ok-clause-ok g c = counted _ _ c.args.name.now c.in_ok-status.field-0 c.in-Ok.status c.in_ok-status.ensures.ok c.in-Ok.is

use Rattle.hub_look.proofs.Subscribed.{handled}
use Rattle.hub_look.proofs.Judged.{stops_by_fault}
use Rattle.hub_look.proofs.asking.handle_for.Goals as goal

pub returns-clause-ok : goal.returns-clause-ok
returns-clause-ok g c = handled _ _ _ c.args.name.now c.in_ok-look_up.field-0 c.handle_of.result c.in_ok-look_up.ensures.ok c.handle_of.ensures.ok

pub returns-in_err-look_up-clause-err : goal.returns-in_err-look_up-clause-err
returns-in_err-look_up-clause-err g c = stops_by_fault _ c.in_err-look_up.field-0.0 c.from_residual.ensures.1 c.in_err-look_up.ensures.err

use Rattle.std.proofs.Common.{◌∙◌}
use Rattle.hub_look.specs.Stops.{IsOwnFault}
use Rattle.hub_look.proofs.Judged.{stops_so}
use Rattle.hub_look.proofs.Looked.{about_refused, both_told, status_refused}
use Rattle.hub_look.proofs.describing.describe.Goals as goal

pub returns-in-Err-clause-ok : goal.returns-in-Err-clause-ok
returns-in-Err-clause-ok g c = about_refused _ _ c.args.name.now c.in_ok-about.field-0 c.in-Err.refusal c.in_ok-about.ensures.ok c.in-Err.is

pub returns-in-Ok-2-clause-ok : goal.returns-in-Ok-2-clause-ok
returns-in-Ok-2-clause-ok g c =
    both_told _ _ _ c.args.name.now c.in_ok-about.field-0 c.in_ok-status.field-0 c.in-Ok.about c.in-Ok-2.status c.in_ok-about.ensures.ok c.in-Ok.is c.in_ok-status.ensures.ok c.in-Ok-2.is

pub returns-in-Err-2-clause-ok : goal.returns-in-Err-2-clause-ok
returns-in-Err-2-clause-ok g c =
    status_refused _ _ _ c.args.name.now c.in_ok-about.field-0 c.in_ok-status.field-0 c.in-Ok.about c.in-Err-2.refusal c.in_ok-about.ensures.ok c.in-Ok.is c.in_ok-status.ensures.ok c.in-Err-2.is

pub returns-in_err-about-clause-err : goal.returns-in_err-about-clause-err
returns-in_err-about-clause-err g c = stops_so IsOwnFault _ c.in_err-about.field-0.0 c.from_residual.ensures.1 c.in_err-about.ensures.err

pub returns-in_err-status-clause-err : goal.returns-in_err-status-clause-err
returns-in_err-status-clause-err g c = stops_so IsOwnFault _ c.in_err-status.field-0.0 c.from_residual-in_err-status.ensures.1 c.in_err-status.ensures.err

pub returns-in_err-status-clause-begun : goal.returns-in_err-status-clause-begun
returns-in_err-status-clause-begun g c = c.in_err-status.ensures.begun ∙ c.in_ok-about.ensures.begun

pub returns-in-Ok-2-clause-begun : goal.returns-in-Ok-2-clause-begun
returns-in-Ok-2-clause-begun g c = c.in_ok-status.ensures.begun ∙ c.in_ok-about.ensures.begun

pub returns-in-Err-2-clause-begun : goal.returns-in-Err-2-clause-begun
returns-in-Err-2-clause-begun g c = c.in_ok-status.ensures.begun ∙ c.in_ok-about.ensures.begun

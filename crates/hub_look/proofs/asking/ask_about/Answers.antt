use Rattle.hub_look.proofs.Judged.{stops_by_fault}
use Rattle.hub_look.proofs.Looked.{heard_so}
use Rattle.hub_look.proofs.asking.ask_about.Goals as goal

pub returns-in_err-heard-clause-err : goal.returns-in_err-heard-clause-err
returns-in_err-heard-clause-err g c = stops_by_fault _ c.in_err-heard.field-0.0 c.from_residual.ensures.1 c.in_err-heard.ensures.err

pub returns-in-Ok-clause-ok : goal.returns-in-Ok-clause-ok
returns-in-Ok-clause-ok g c = heard_so _ _ c.args.request c.args.name.now c.in_ok-heard.field-0 c.in-Ok.heard c.in_ok-heard.ensures.ok c.in-Ok.is

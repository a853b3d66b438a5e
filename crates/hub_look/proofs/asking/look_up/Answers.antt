use Rattle.hub_look.proofs.Refusals.{found_so, refused_here}
use Rattle.hub_look.proofs.Judged.{own_memory}
use Rattle.hub_look.proofs.asking.look_up.Goals as goal

pub returns-in-Ok-clause-ok : goal.returns-in-Ok-clause-ok
returns-in-Ok-clause-ok g c =
    found_so _ _ c.in-Ok.request _ c.args.name.now c.in_ok-request.field-0 c.ask_or_tell.result c.in_ok-request.ensures.ok c.in-Ok.is c.ask_or_tell.ensures.ok

pub returns-in_ok-tell_refusal-in-Err-clause-ok : goal.returns-in_ok-tell_refusal-in-Err-clause-ok
returns-in_ok-tell_refusal-in-Err-clause-ok g c =
    λ asked spells. refused_here _ _ _ _ _ _ asked _ c.args.name.now c.in_ok-request.field-0 c.in-Err.refusal spells c.in_ok-request.ensures.ok c.in-Err.is c.in_ok-tell_refusal-in-Err.ensures.ok

pub returns-in_err-tell_refusal-in-Err-clause-err : goal.returns-in_err-tell_refusal-in-Err-clause-err
returns-in_err-tell_refusal-in-Err-clause-err g c = own_memory _ c.from_residual-in_err-tell_refusal-in-Err.ensures.1

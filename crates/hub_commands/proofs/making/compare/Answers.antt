use Rattle.std.proofs.Common.{◌∙◌, ap, sym}
use Rattle.hub_requests.specs.declared.request.Request.TheVariants as request
use Rattle.hub_commands.specs.Making.{FailsToLook, RepliesToAbout}
use Rattle.hub_commands.proofs.Compared.{compared, fails_so, left_unknown, no_answer, none_to_about, not_asked, not_compared}
use Rattle.hub_commands.proofs.Made.{is_about, is_no_about}
use Rattle.hub_commands.proofs.making.compare.Goals as goal

pub returns-in_err-copy-clause-err : goal.returns-in_err-copy-clause-err
returns-in_err-copy-clause-err g c =
    fails_so (FailsToLook _ _ c.args.name.now) _ _ c.from_residual.ensures.1 (not_asked RepliesToAbout _ _)

pub returns-in_err-heard-clause-err : goal.returns-in_err-heard-clause-err
returns-in_err-heard-clause-err g c =
    fails_so (FailsToLook _ _ c.args.name.now) _ _ c.from_residual-in_err-heard.ensures.1
    (no_answer RepliesToAbout _ _ _ _ _ _ _ (request.About c.args.name.now) _ c.in_err-heard.field-0.0 (ap request.About c.in_ok-copy.ensures) c.in_err-heard.ensures.err)

pub returns-in-Some-Ok-clause-ok : goal.returns-in-Some-Ok-clause-ok
returns-in-Some-Ok-clause-ok g c =
    compared _ _ _ _ _ _ _ _ c.args.name.now c.args.wanted _ _ c.reply.result c.in-Some-Ok.about c.in_ok-judge-in-Some-Ok.field-0 c.reply.ensures
    (is_about c.reply.result c.in-Some-Ok.about (cc)) (ap request.About c.in_ok-copy.ensures) c.in_ok-heard.ensures.ok c.in_ok-judge-in-Some-Ok.ensures.ok

pub returns-in-Some-Err-clause-ok : goal.returns-in-Some-Err-clause-ok
returns-in-Some-Err-clause-ok g c =
    not_compared _ _ _ _ _ _ _ _ c.args.name.now c.args.wanted _ _ c.bytes.result.now c.reply.result c.in-Some-Err.refusal c.reply.ensures
    (is_no_about c.reply.result c.in-Some-Err.refusal (cc)) (ap request.About c.in_ok-copy.ensures) c.in_ok-heard.ensures.ok c.bytes.ensures c.in_ok-note_refusal-in-Some-Err.ensures.ok

pub returns-clause-err : goal.returns-clause-err
returns-clause-err g c =
    left_unknown RepliesToAbout _ _ _ _ _ _ _ (request.About c.args.name.now) _ c.reply.result c.reply.ensures (ap request.About c.in_ok-copy.ensures) c.in_ok-heard.ensures.ok
    (none_to_about c.reply.result c.reply.ensures.reply (sym c.about_told.ensures ∙ c.in-None.is) c.reply.ensures.shows)

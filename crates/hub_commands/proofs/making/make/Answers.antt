use Rattle.std.proofs.Common.{◌∙◌, Err, Some, ap, inl, sym}
use Rattle.hub_requests.specs.declared.reply.Refusal.TheVariants.{Exists}
use Rattle.hub_commands.specs.Making.{FailsToMake, RepliesToMake, request_for}
use Rattle.hub_commands.proofs.Compared.{exists_if, exists_unless, fails_so, is_there, left_unknown, made_new, made_there, no_answer, none_to_make, not_asked, not_made_new, not_made_there}
use Rattle.hub_commands.proofs.Made.{is_done, is_refusal}
use Rattle.hub_commands.proofs.making.make.Goals as goal

pub returns-in_err-copy-clause-err : goal.returns-in_err-copy-clause-err
returns-in_err-copy-clause-err g c =
    fails_so (FailsToMake _ _ c.args.wanted c.args.name.now) _ _ c.from_residual.ensures.1 (inl (not_asked RepliesToMake _ _))

pub returns-in_err-heard-clause-err : goal.returns-in_err-heard-clause-err
returns-in_err-heard-clause-err g c =
    fails_so (FailsToMake _ _ c.args.wanted c.args.name.now) _ _ c.from_residual-in_err-heard.ensures.1
    (inl (no_answer RepliesToMake _ _ _ _ _ _ _ (request_for c.args.wanted c.args.name.now) _ c.in_err-heard.field-0.0
    (c.request_for-request.ensures ∙ ap (request_for c.args.wanted) c.in_ok-copy.ensures) c.in_err-heard.ensures.err))

pub returns-in-Some-Ok-clause-ok : goal.returns-in-Some-Ok-clause-ok
returns-in-Some-Ok-clause-ok g c =
    made_new _ _ _ _ _ _ c.args.wanted c.args.name.now _ _ c.reply.result c.reply.ensures
    (is_done c.reply.result tt (sym c.made_told.ensures ∙ c.in-Some-Ok.is ∙ ap Some c.in-Some-Ok.field-0-is)) (c.request_for-request.ensures ∙ ap (request_for c.args.wanted) c.in_ok-copy.ensures) c.in_ok-heard.ensures.ok

pub returns-then-is_there-clause-ok : goal.returns-then-is_there-clause-ok
returns-then-is_there-clause-ok g c =
    made_there _ _ _ c.args.wanted c.args.name.now c.compare.result (is_there _ _ _ _ _ _ c.args.wanted c.args.name.now _ _ c.reply.result c.reply.ensures
    (is_refusal c.reply.result Exists (sym c.made_told.ensures ∙ c.in-Some-Err.is ∙ ap Some (c.in-Some-Err.field-0-is ∙ ap Err (exists_if c.in-Some-Err.refusal c.is_there.result c.is_there.ensures c.if-is_there.true)))) (c.request_for-request.ensures ∙ ap (request_for c.args.wanted) c.in_ok-copy.ensures) c.in_ok-heard.ensures.ok) c.compare.ensures.ok

pub returns-then-is_there-clause-err : goal.returns-then-is_there-clause-err
returns-then-is_there-clause-err g c =
    not_made_there _ _ _ c.args.wanted c.args.name.now c.compare.result (is_there _ _ _ _ _ _ c.args.wanted c.args.name.now _ _ c.reply.result c.reply.ensures
    (is_refusal c.reply.result Exists (sym c.made_told.ensures ∙ c.in-Some-Err.is ∙ ap Some (c.in-Some-Err.field-0-is ∙ ap Err (exists_if c.in-Some-Err.refusal c.is_there.result c.is_there.ensures c.if-is_there.true)))) (c.request_for-request.ensures ∙ ap (request_for c.args.wanted) c.in_ok-copy.ensures) c.in_ok-heard.ensures.ok) c.compare.ensures.err

pub returns-in-Some-Err-clause-ok : goal.returns-in-Some-Err-clause-ok
returns-in-Some-Err-clause-ok g c =
    not_made_new _ _ _ _ _ _ _ _ c.args.wanted c.args.name.now _ _ c.bytes.result.now c.reply.result c.in-Some-Err.refusal c.reply.ensures
    (is_refusal c.reply.result c.in-Some-Err.refusal (sym c.made_told.ensures ∙ c.in-Some-Err.is ∙ ap Some c.in-Some-Err.field-0-is)) (exists_unless c.in-Some-Err.refusal c.is_there.result c.is_there.ensures c.if-is_there.false) (c.request_for-request.ensures ∙ ap (request_for c.args.wanted) c.in_ok-copy.ensures) c.in_ok-heard.ensures.ok c.bytes.ensures c.in_ok-note_refusal-in-Some-Err.ensures.ok

pub returns-clause-err : goal.returns-clause-err
returns-clause-err g c =
    inl (left_unknown RepliesToMake _ _ _ _ _ _ _ (request_for c.args.wanted c.args.name.now) _ c.reply.result c.reply.ensures (c.request_for-request.ensures ∙ ap (request_for c.args.wanted) c.in_ok-copy.ensures) c.in_ok-heard.ensures.ok
    (none_to_make c.reply.result c.reply.ensures.reply (sym c.made_told.ensures ∙ c.in-None.is) c.reply.ensures.shows))

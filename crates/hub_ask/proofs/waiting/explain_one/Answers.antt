use Rattle.std.proofs.Common.{◌∷◌, [], ap, ◌∙◌}
use Rattle.std.proofs.KnownBytes.{Appends-nil}
use Rattle.hub_letters.specs.declared.span.Span.TheVariants as span
use Rattle.hub_requests.specs.declared.request.Request.TheVariants as request
use Rattle.hub_ask.proofs.Sent.{both_of_two, first_of_two, fronts_none, on_err, second_of_two}
use Rattle.hub_ask.proofs.waiting.explain_one.Goals as goal

pub returns-in_err-copy-clause-err : goal.returns-in_err-copy-clause-err
returns-in_err-copy-clause-err g c = on_err _ (fronts_none _ _ [] _ (Appends-nil _))

pub returns-in_err-now-clause-err : goal.returns-in_err-now-clause-err
returns-in_err-now-clause-err g c = on_err _ (fronts_none _ _ [] _ (Appends-nil _))

pub returns-in_err-met-clause-err : goal.returns-in_err-met-clause-err
returns-in_err-met-clause-err g c =
    on_err _ (first_of_two _ _ _ _ _ _ _ _ c.hear_once.result (c.in_ok-now.ensures ∙ ap (λ n. request.Wait span.All c.args.want 0 (n ∷ [])) c.in_ok-copy.ensures) c.hear_once.ensures.ok c.hear_once.ensures.err)

pub returns-in_err-tell_state-clause-err : goal.returns-in_err-tell_state-clause-err
returns-in_err-tell_state-clause-err g c =
    on_err _ (second_of_two _ _ _ _ _ _ _ _ _ _ _ _ c.hear_once-status.result (c.in_ok-now.ensures ∙ ap (λ n. request.Wait span.All c.args.want 0 (n ∷ [])) c.in_ok-copy.ensures) c.in_ok-met.ensures.ok c.hear_once-status.ensures.ok c.hear_once-status.ensures.err)

pub returns-in-Ok-clause-ok : goal.returns-in-Ok-clause-ok
returns-in-Ok-clause-ok g c =
    both_of_two _ _ _ _ _ _ _ _ (request.Wait span.All c.args.want 0 (c.args.name ∷ [])) (request.Status c.args.name) _ _ c.hear_once-status.result (c.in_ok-now.ensures ∙ ap (λ n. request.Wait span.All c.args.want 0 (n ∷ [])) c.in_ok-copy.ensures) c.in_ok-met.ensures.ok c.in-Ok.is c.hear_once-status.ensures.ok

pub returns-clause-err : goal.returns-clause-err
returns-clause-err g c =
    second_of_two _ _ _ _ _ _ _ _ _ _ _ _ c.hear_once-status.result (c.in_ok-now.ensures ∙ ap (λ n. request.Wait span.All c.args.want 0 (n ∷ [])) c.in_ok-copy.ensures) c.in_ok-met.ensures.ok c.hear_once-status.ensures.ok c.hear_once-status.ensures.err

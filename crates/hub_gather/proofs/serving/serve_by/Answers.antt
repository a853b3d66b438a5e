use Rattle.std.proofs.Common.{◌≡◌, Err, refl, sym, inr, subst, rules}
use Rattle.hub_io.specs.Lines.{lines_of}
use Rattle.hub_io.proofs.Outcomes.{IfOk-from, IfErr-from}
use Rattle.hub_front.proofs.UnderWay.{served_last, count_last}
use Rattle.hub_gather.specs.Gathering.{HaltsAt}
use Rattle.hub_gather.proofs.Lost.{loses_last}
use Rattle.hub_gather.proofs.Passed.{ends_prompt, paces_none, paces_of_ok, until_as, until_then, until_whole}
use Rattle.hub_gather.proofs.serving.serve_by.Goals as goal

pub returns-in_err-batch-clause-prompt : goal.returns-in_err-batch-clause-prompt
returns-in_err-batch-clause-prompt g c = ends_prompt _ (until_whole _ (paces_none _ _))

pub returns-in_err-chunk-clause-prompt : goal.returns-in_err-chunk-clause-prompt
returns-in_err-chunk-clause-prompt g c = ends_prompt _ (until_whole _ (paces_none _ _))

pub returns-in_err-serve_reads-clause-prompt : goal.returns-in_err-serve_reads-clause-prompt
returns-in_err-serve_reads-clause-prompt g c =
    let same : c.from_residual-in_err-serve_reads.result ≡ Err c.in_err-serve_reads.field-0.0 = search rules in
    ends_prompt _ (until_as _ _ _ c.in_err-serve_reads.was same c.serve_reads.ensures.paces)

pub returns-clause-ok : goal.returns-clause-ok
returns-clause-ok g c =
    let u = c.in_ok-serve_reads.ensures.under_way in
    IfOk-from _ _ c.finish.result (λ n served counted. (u.input, u.consumed, c.in_ok-serve_reads.ensures.end, count_last u counted, served_last u served)) c.finish.ensures.ok c.finish.ensures.count

pub returns-clause-err : goal.returns-clause-err
returns-clause-err g c =
    let u = c.in_ok-serve_reads.ensures.under_way in
    IfErr-from _ _ c.finish.result
    (λ e lost fault. (u.input, u.consumed, subst (HaltsAt _ _ _ u.input _ _ _ _) (sym fault) (lines_of u.input, inr (c.in_ok-serve_reads.ensures.end, refl), loses_last u lost)))
    c.finish.ensures.err c.finish.ensures.fault

pub returns-clause-prompt : goal.returns-clause-prompt
returns-clause-prompt g c = ends_prompt _ (until_then _ (paces_of_ok _ _ c.in_ok-serve_reads.was c.serve_reads.ensures.paces) (c.finish.ensures.paces _))

use Rattle.std.proofs.Common.{◌≡◌, ◌≤◌, Err, refl, sym, ap, ◌∙◌, inr, subst, rules}
use Rattle.hub_io.specs.declared.fault.FrontError.TheVariants.{Turns, Memory}
use Rattle.hub_io.specs.Lines.{lines_of}
use Rattle.hub_front.specs.Serving.{StopsAt}
use Rattle.hub_io.proofs.Outcomes.{only_write, IfOk-from, IfErr-from}
use Rattle.hub_front.proofs.UnderWay.{served_last, breaks_last, count_last}
use Rattle.hub_front.proofs.serving.serve_lines.Goals as goal

pub returns-in_err-serve_reads-clause-memory : goal.returns-in_err-serve_reads-clause-memory
returns-in_err-serve_reads-clause-memory g c = λ memory.
    let same : c.from_residual-in_err-serve_reads.result ≡ Err c.in_err-serve_reads.field-0.0 = search rules in
    let it : c.in_err-serve_reads.field-0.0 ≡ Memory = cc in
    absurd (c.serve_reads.ensures.memory (c.in_err-serve_reads.was ∙ ap Err it))

pub returns-clause-ok : goal.returns-clause-ok
returns-clause-ok g c =
    let u = c.in_ok-serve_reads.ensures.under_way in
    IfOk-from _ _ c.finish.result (λ n served counted. (u.input, u.consumed, c.in_ok-serve_reads.ensures.end, count_last u counted, served_last u served)) c.finish.ensures.ok c.finish.ensures.count

pub returns-clause-err : goal.returns-clause-err
returns-clause-err g c =
    let u = c.in_ok-serve_reads.ensures.under_way in
    IfErr-from _ _ c.finish.result
    (λ e broken fault. (u.input, u.consumed, subst (StopsAt _ _ _ u.input _ _ _ _) (sym fault) (lines_of u.input, inr (c.in_ok-serve_reads.ensures.end, refl), breaks_last u broken)))
    c.finish.ensures.err c.finish.ensures.fault

pub returns-in_err-serve_reads-clause-reads : goal.returns-in_err-serve_reads-clause-reads
returns-in_err-serve_reads-clause-reads g c =
    let (n, most, grown, whole) = c.serve_reads.ensures.reads in
    let same : c.from_residual-in_err-serve_reads.result ≡ Err c.in_err-serve_reads.field-0.0 = search rules in
    let is = c.reads.ensures.reads in
    (n, subst (λ reads. n ≤ reads) is most, grown, λ turns. whole (c.in_err-serve_reads.was ∙ ap Err (let it : c.in_err-serve_reads.field-0.0 ≡ Turns = cc in it)) ∙ is)

pub returns-clause-reads : goal.returns-clause-reads
returns-clause-reads g c =
    let (n, most, grown, whole) = c.serve_reads.ensures.reads in
    (n, subst (λ reads. n ≤ reads) c.reads.ensures.reads most, grown, λ turns. absurd (only_write c.finish.result c.finish.ensures.fault turns))

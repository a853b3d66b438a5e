use Rattle.std.proofs.Common.{◌≡◌, Err, refl, rules}
use Rattle.hub_io.specs.declared.fault.FrontError.TheVariants.{Write}
use Rattle.hub_gather.proofs.Gathered.{OnErr-from, OnOk-from, loses_after, loses_from}
use Rattle.hub_gather.proofs.Passed.{out_from, until_lost, until_wrote, works_from, works_to}
use Rattle.hub_gather.proofs.batch.Batch.take_bytes.Goals as goal

pub returns-clause-err : goal.returns-clause-err
returns-clause-err g c = OnErr-from c.write_held.result (λ part. loses_from c.requires.held (loses_after c.in_ok-answer_lines.ensures.ok part)) c.write_held.ensures.err

pub returns-in_err-answer_lines-clause-paces : goal.returns-in_err-answer_lines-clause-paces
returns-in_err-answer_lines-clause-paces g c =
    let is : c.from_residual.result ≡ Err Write = search rules in
    until_lost _ _ is (out_from refl c.requires.held c.in_err-answer_lines.ensures.lost)

pub returns-clause-paces : goal.returns-clause-paces
returns-clause-paces g c =
    let counted = c.in_ok-answer_lines.ensures.count in
    until_wrote c.write_held.result c.write_held.ensures.fault
    (OnOk-from c.write_held.result (λ p. works_from counted refl (works_to counted refl p)) c.write_held.ensures.paces)
    (OnErr-from c.write_held.result (λ p. out_from counted refl p) c.write_held.ensures.lost)
    (works_to counted refl (works_from refl c.requires.held c.in_ok-answer_lines.ensures.paces))

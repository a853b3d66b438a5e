use Rattle.std.proofs.Common.{◌≡◌, ◌+◌, [], ◌∷◌, length, Err, refl, rules, arith}
use Rattle.std.proofs.lemmas.Grind.{common_steps}
use Rattle.hub_io.specs.Lines.{last_line}
use Rattle.hub_io.specs.declared.fault.FrontError.TheVariants.{Write}
use Rattle.hub_io.proofs.Outcomes.{OnErr-known}
use Rattle.hub_gather.proofs.Gathered.{loses_after, loses_from, loses_same}
use Rattle.hub_gather.proofs.Passed.{out_from, out_then, until_lost, until_ok, works_from, works_none, works_then, works_to}
use Rattle.hub_gather.proofs.batch.Batch.finish.Goals as goal

pub returns-in_err-write_held-clause-err : goal.returns-in_err-write_held-clause-err
returns-in_err-write_held-clause-err g c =
    let one : c.args.self.line.items ∷ [] ≡ last_line c.args.self.line.items = search rules in
    OnErr-known _ (loses_same one (loses_from c.requires.held (loses_after c.in_ok-answer_line.ensures.ok c.in_err-write_held.ensures.err)))

pub returns-then-is_empty-clause-paces : goal.returns-then-is_empty-clause-paces
returns-then-is_empty-clause-paces g c =
    let same : c.args.self.count ≡ c.args.self.count + length (last_line c.args.self.line.items) = grind (arith, common_steps) in
    until_ok _ (works_to same refl (works_none _ c.args.self.count []))

pub returns-in_err-answer_line-clause-paces : goal.returns-in_err-answer_line-clause-paces
returns-in_err-answer_line-clause-paces g c =
    let is : c.from_residual.result ≡ Err Write = search rules in
    until_lost _ _ is (out_from refl c.requires.held c.in_err-answer_line.ensures.lost)

pub returns-in_err-write_held-clause-paces : goal.returns-in_err-write_held-clause-paces
returns-in_err-write_held-clause-paces g c =
    let is : c.from_residual-in_err-write_held.result ≡ Err Write = search rules in
    until_lost _ _ is (out_from refl c.requires.held (out_then c.in_ok-answer_line.ensures.paces c.in_err-write_held.ensures.lost))

pub returns-clause-paces : goal.returns-clause-paces
returns-clause-paces g c =
    until_ok _ (works_to (search rules) refl (works_from refl c.requires.held (works_then c.in_ok-answer_line.ensures.paces c.in_ok-write_held.ensures.paces)))

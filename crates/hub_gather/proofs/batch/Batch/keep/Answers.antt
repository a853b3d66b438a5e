use Rattle.std.proofs.Common.{◌≡◌, ◌++◌, take, ◌∙◌, arith, rules}
use Rattle.hub_front.proofs.Cuts.{kept}
use Rattle.hub_gather.proofs.batch.Batch.keep.Goals as goal

pub returns-clause-line : goal.returns-clause-line
returns-clause-line c =
    let line = c.args.self.now.line.items in
    let grown : c.extend_from_slice.new.self.items ≡ line ++ take c.min-fits.result c.args.piece.now = search rules in
    grown ∙ kept line c.args.piece.now c.min-fits.result (omega arith) (omega arith)

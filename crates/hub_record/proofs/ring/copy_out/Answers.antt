use Rattle.std.proofs.Common.{sym, arith}
use Rattle.hub_record.proofs.Copies.{copied_one}
use Rattle.hub_record.proofs.ring.copy_out.Goals as goal

pub returns-then-min-eq1-clause-copied : goal.returns-then-min-eq1-clause-copied
returns-then-min-eq1-clause-copied c = let one = c.min.ensures in let is = c.if-min-eq1.true in copied_one c.args.ring.now.items _ c.args.place _ (sym c.in-Some.ensures) (omega arith)

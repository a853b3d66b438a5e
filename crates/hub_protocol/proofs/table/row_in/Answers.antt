use Rattle.std.proofs.Common.{sym}
use Rattle.hub_protocol.proofs.Rows.{found, not_yet}
use Rattle.hub_protocol.proofs.table.row_in.Goals as goal

pub returns-then-eq : goal.returns-then-eq
returns-then-eq c = found c.args.rows.now c.args.word.now c.loop-row.row-index _ c.loop-row-test.true c.loop-row.invariant (sym c.if-eq.ensures)

pub loop-row-preserved : goal.loop-row-preserved
loop-row-preserved c = not_yet c.args.rows.now c.args.word.now c.loop-row.row-index _ c.loop-row-test.true c.loop-row.invariant (sym c.if-eq.ensures)

use Rattle.std.proofs.Common.{sym}
use Rattle.hub_protocol.proofs.WordMeanings.{found, not_yet, nowhere}
use Rattle.hub_protocol.proofs.meanings.meaning_of.Goals as goal

pub returns-then-eq : goal.returns-then-eq
returns-then-eq g c = found c.args.list.now c.args.word.now c.loop-entry.entry-index c.entry-item.result c.loop-entry-test.true c.entry-item.is (sym c.if-eq.ensures)

pub loop-entry-preserved : goal.loop-entry-preserved
loop-entry-preserved g c = not_yet c.args.list.now c.args.word.now c.loop-entry.entry-index c.entry-item.result c.loop-entry-test.true c.entry-item.is (sym c.if-eq.ensures) c.loop-entry.invariant

pub returns : goal.returns
returns g c = nowhere c.args.list.now c.args.word.now c.loop-entry.entry-index c.loop-entry-test.false c.loop-entry.invariant

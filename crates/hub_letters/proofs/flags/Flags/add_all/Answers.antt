use Rattle.hub_letters.proofs.Folded.{flags_more}
use Rattle.hub_letters.proofs.flags.Flags.add_all.Goals as goal

pub loop-letter-preserved : goal.loop-letter-preserved
loop-letter-preserved c = λ word is. flags_more word _ _ _ _ _ c.loop-letter-test.true c.letter-item.is (c.loop-letter.invariant word is) c.add.ensures

use Rattle.std.proofs.Common.{arith}
use Rattle.std.proofs.lemmas.Grind.{common_steps}
use Rattle.hub_shared.proofs.shared_desk.waits.numbers_met.Goals as goal

pub loop-post-preserved : goal.loop-post-preserved
loop-post-preserved c = grind (arith, common_steps)

use Rattle.std.proofs.Common.{arith}
use Rattle.hub_wait.proofs.KeptPosts.{AreKept-refl, AreKept-set, CaughtUpBelow-none, CaughtUpBelow-set}
use Rattle.hub_wait.proofs.wait.catch_up_all.Goals as goal

pub loop-i-init : goal.loop-i-init
loop-i-init g c = record { kept = AreKept-refl _; caught_up = CaughtUpBelow-none _ }

pub loop-i-preserved : goal.loop-i-preserved
loop-i-preserved g c = record {
  kept = AreKept-set _ _ _ _ _ c.loop-i-test.true c.loop-i.invariant.kept c.catch_up.ensures.kept;
  caught_up = CaughtUpBelow-set _ _ _ _ _ c.loop-i-test.true c.loop-i.invariant.kept.count c.loop-i.invariant.caught_up c.catch_up.ensures.caught_up;
}

pub returns-clause-caught_up : goal.returns-clause-caught_up
returns-clause-caught_up g c = λ k d h. c.loop-i.invariant.caught_up.done k d h (omega (arith, h))

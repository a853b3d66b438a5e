use Rattle.std.proofs.Common.{refl, arith, inl, inr}
use Rattle.hub_wait.proofs.KeptPosts.{AreKept-refl, AreKept-trans}
use Rattle.hub_wait.proofs.wait.svwait.Goals as goal

pub loop-turn-init : goal.loop-turn-init
loop-turn-init g c = record { kept = AreKept-refl _; caught_up = inl refl; still = λ e. refl }

pub loop-turn-preserved : goal.loop-turn-preserved
loop-turn-preserved g c = record {
  kept = AreKept-trans _ _ _ c.loop-turn.invariant.kept c.catch_up_all.ensures.kept;
  caught_up = inr (c.loop-turn.posts, c.loop-turn.invariant.kept, c.catch_up_all.ensures.caught_up);
  still = λ e. absurd (omega (arith, e));
}

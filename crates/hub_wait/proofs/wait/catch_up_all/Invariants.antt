use Rattle.hub_wait.specs.Waits.{AreKept}
use Rattle.hub_wait.proofs.KeptPosts.{CaughtUpBelow}
use Rattle.hub_wait.proofs.wait.catch_up_all.Given as goal

abbrev pub invariant-loop-i : goal.invariant-loop-i
invariant-loop-i g l = record {
  kept : AreKept l.initial.posts l.posts;
  caught_up : CaughtUpBelow l.i l.initial.posts l.posts;
}

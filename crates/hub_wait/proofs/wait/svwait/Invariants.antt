use Rattle.std.proofs.Common.{◌≡◌}
use Rattle.hub_wait.specs.Waits.{AreCaughtUp, AreKept}
use Rattle.hub_wait.proofs.wait.svwait.Given as goal

abbrev pub invariant-loop-turn : goal.invariant-loop-turn
invariant-loop-turn g l = record {
  kept : AreKept l.initial.posts l.posts;
  caught_up : AreCaughtUp l.initial.posts l.posts;
  still : l.turn ≡ 0 → l.posts ≡ l.initial.posts;
}

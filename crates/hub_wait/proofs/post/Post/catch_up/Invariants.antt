use Rattle.std.proofs.Common.{◌≡◌, ◌+◌, ◌*◌}
use Rattle.hub_wait.specs.declared.post.TheConstants.{SLICE}
use Rattle.hub_wait.specs.Posts.{IsKept, next_of}
use Rattle.hub_wait.proofs.post.Post.catch_up.Given as goal

abbrev pub invariant-loop : goal.invariant-loop
invariant-loop g l = record {
  kept : IsKept l.initial.self l.self;
  taken : next_of l.self ≡ next_of l.initial.self + SLICE * l.counter;
}

use Rattle.std.proofs.Common.{◌≡◌, take}
use Rattle.hub_record.specs.World.{empty_world}
use Rattle.hub_record.specs.Kept.{Represents}
use Rattle.hub_record.specs.Runs.{IsRun, world_after, gathered_from, lists_of}
use Rattle.hub_record.proofs.runs.replay.Given as goal

-- the replies so far are a run of the calls so far
abbrev pub invariant-loop-call : goal.invariant-loop-call
invariant-loop-call l = record {
  run : IsRun (empty_world l.fn.kind l.fn.limits) (take l.call-index l.calls) l.world.replies.items;
  represents : Represents l.world.state (world_after (empty_world l.fn.kind l.fn.limits) (take l.call-index l.calls) l.world.replies.items);
  gathered : lists_of l.world.gathered.entries ≡ gathered_from 1 (world_after (empty_world l.fn.kind l.fn.limits) (take l.call-index l.calls) l.world.replies.items).subscriptions;
}

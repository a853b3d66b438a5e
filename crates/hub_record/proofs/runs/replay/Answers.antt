use Rattle.std.proofs.Common.{◌≡◌, ap, ◌∙◌, subst}
use Rattle.std.proofs.lemmas.List.{take_all}
use Rattle.hub_record.specs.World.{World, empty_world}
use Rattle.hub_record.specs.Kept.{Represents}
use Rattle.hub_record.specs.Runs.{IsRun, world_after, gathered_from, lists_of}
use Rattle.hub_record.proofs.Since.{stepped, stepped_world, run_follows, run_published}
use Rattle.hub_record.proofs.runs.replay.Goals as goal

pub loop-call-preserved : goal.loop-call-preserved
loop-call-preserved c =
    let w = empty_world c.args.kind c.args.limits in
    let (said, told, is, after, gathered) = c.in_ok-step.ensures.said _ c.loop-call.invariant.represents in
    let next = stepped_world w c.args.calls.now c.loop-call.call-index c.loop-call.world.replies.items c.step.new.self.replies.items _ said c.loop-call-test.true c.call-item.is c.loop-call.invariant.run is in
    record {
      run = stepped w c.args.calls.now c.loop-call.call-index c.loop-call.world.replies.items c.step.new.self.replies.items _ said c.loop-call-test.true c.call-item.is c.loop-call.invariant.run told is;
      represents = subst (λ v. Represents c.step.new.self.state v) next after;
      gathered = gathered c.loop-call.invariant.gathered ∙ ap (λ (v : World). gathered_from 1 v.subscriptions) next;
    }

pub returns-clause-replies : goal.returns-clause-replies
returns-clause-replies c = subst (λ calls. IsRun (empty_world c.args.kind c.args.limits) calls c.loop-call.world.replies.items) (take_all c.loop-call.call-index c.args.calls.now c.loop-call-test.false) c.loop-call.invariant.run

pub returns-clause-state : goal.returns-clause-state
returns-clause-state c =
    subst (λ calls. Represents c.loop-call.world.state (world_after (empty_world c.args.kind c.args.limits) calls c.loop-call.world.replies.items)) (take_all c.loop-call.call-index c.args.calls.now c.loop-call-test.false) c.loop-call.invariant.represents

pub returns-clause-gathered : goal.returns-clause-gathered
returns-clause-gathered c =
    subst (λ calls. lists_of c.loop-call.world.gathered.entries ≡ gathered_from 1 (world_after (empty_world c.args.kind c.args.limits) calls c.loop-call.world.replies.items).subscriptions) (take_all c.loop-call.call-index c.args.calls.now c.loop-call-test.false) c.loop-call.invariant.gathered

pub returns-clause-since : goal.returns-clause-since
returns-clause-since c = run_follows (empty_world c.args.kind c.args.limits) c.args.calls.now c.loop-call.world.replies.items tt

pub returns-clause-own : goal.returns-clause-own
returns-clause-own c = λ p. run_published p (empty_world c.args.kind c.args.limits) c.args.calls.now c.loop-call.world.replies.items

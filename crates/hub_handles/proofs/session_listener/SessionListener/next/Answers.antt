use Rattle.std.proofs.Common.{Bool, MatchBool, refl, subst}
use Rattle.hub_requests.specs.declared.reply.Reply.{Reply}
use Rattle.hub_handles.specs.Awaiting.{HasMoreToTake, HasNoneToTake}
use Rattle.hub_handles.specs.Nexts.{PollsOn}
use Rattle.hub_handles.proofs.Nexts.{polls_further, polls_late}
use Rattle.hub_handles.proofs.session_listener.SessionListener.next.Goals as goal

pub polls-init : goal.polls-init
polls-init g c = c.poll_whole-reply.ensures

pub returns-in_default : goal.returns-in_default
returns-in_default g c = c.polls.invariant

pub returns-then-not-await_within : goal.returns-then-not-await_within
returns-then-not-await_within g c =
    polls_late c.args.self.now c.polls.self _ (subst (λ (r : Reply). PollsOn c.args.self.now r c.polls.self) c.in-Nothing.is c.polls.invariant)
    (record { looked = c.await_within.ensures.looked; listener = refl; mode = refl; held = refl })
    (subst (λ (b : Bool). MatchBool b (HasMoreToTake c.await_within.new.self) (HasNoneToTake c.await_within.new.self)) c.if-not-await_within.true c.await_within.ensures.more)

pub polls-preserved : goal.polls-preserved
polls-preserved g c =
    polls_further c.args.self.now c.polls.self _ _ _ (subst (λ (r : Reply). PollsOn c.args.self.now r c.polls.self) c.in-Nothing.is c.polls.invariant)
    (record { looked = c.await_within.ensures.looked; listener = refl; mode = refl; held = refl }) c.poll_whole-reply-in-polls.ensures

pub returns : goal.returns
returns g c = c.polls.invariant

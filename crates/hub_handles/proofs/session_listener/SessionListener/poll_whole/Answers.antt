use Rattle.std.proofs.Common.{◌≤◌, length, Bool, MatchBool, subst}
use Rattle.hub_letters.specs.declared.mode.TheConstants.{MOST_GATHERED}
use Rattle.hub_handles.specs.Hearings.{HasRoom, Polls}
use Rattle.hub_requests.specs.declared.reply.Reply.{Reply}
use Rattle.hub_handles.proofs.Nexts.{polls_some, polls_none, polls_full}
use Rattle.hub_handles.proofs.session_listener.SessionListener.poll_whole.Goals as goal

pub returns-then-is_full : goal.returns-then-is_full
returns-then-is_full g c =
    polls_full c.args.self.now c.poll.new.self
    (subst (λ (b : Bool). MatchBool b (MOST_GATHERED ≤ length c.poll.new.self.listener.gathered) (HasRoom c.poll.new.self)) c.if-is_full.true c.is_full.ensures)
    (subst (λ (r : Reply). Polls c.args.self.now r c.poll.new.self) c.in-Nothing.is c.poll.ensures)

pub returns-else-is_full : goal.returns-else-is_full
returns-else-is_full g c =
    polls_none c.args.self.now c.poll.new.self c.gathers_few.ensures
    (subst (λ (b : Bool). MatchBool b (MOST_GATHERED ≤ length c.poll.new.self.listener.gathered) (HasRoom c.poll.new.self)) c.if-is_full.false c.is_full.ensures)
    (subst (λ (r : Reply). Polls c.args.self.now r c.poll.new.self) c.in-Nothing.is c.poll.ensures)

pub returns-in_default : goal.returns-in_default
returns-in_default g c = polls_some c.args.self.now c.poll.new.self c.poll.result c.gathers_few.ensures c.in_default.not-Nothing c.poll.ensures

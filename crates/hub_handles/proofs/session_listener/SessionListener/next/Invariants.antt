use Rattle.hub_handles.specs.Nexts.{PollsOn}
use Rattle.hub_handles.proofs.session_listener.SessionListener.next.Given as goal

abbrev pub invariant-polls : goal.invariant-polls
invariant-polls g l = PollsOn l.fn.self l.reply l.self

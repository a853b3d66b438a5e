use Rattle.hub_listen.proofs.Closed.{AreReached-alive, AreAlive-last, no_match_here}
use Rattle.hub_listen.proofs.alive.Alive.hear_last.Goals as goal

pub close-requires-clause-reached : goal.close-requires-clause-reached
close-requires-clause-reached c = AreReached-alive _ _ _ _ _ c.copy.ensures.same c.requires.alive

pub close-requires-2-clause-reached : goal.close-requires-2-clause-reached
close-requires-2-clause-reached c =
    AreReached-alive _ _ _ _ _ c.copy-2.ensures.same
    (AreAlive-last _ _ _ _ _ _ c.requires.some c.requires.alive c.copy.ensures.same (c.close.ensures.closed c.if-close.false) c.read.ensures.read)

pub returns-clause-none_before : goal.returns-clause-none_before
returns-clause-none_before c _ = no_match_here _ _ _ _ _ _ c.requires.alive c.copy.ensures.same (c.close.ensures.closed c.if-close.false)

pub returns-clause-none_behind : goal.returns-clause-none_behind
returns-clause-none_behind c none =
    no_match_here _ _ _ _ _ _
    (AreAlive-last _ _ _ _ _ _ c.requires.some c.requires.alive c.copy.ensures.same (c.close.ensures.closed c.if-close.false) c.read.ensures.read)
    c.copy-2.ensures.same (c.close-2.ensures.closed none)

pub returns-clause-alive : goal.returns-clause-alive
returns-clause-alive c _ =
    AreAlive-last _ _ _ _ _ _ c.requires.some c.requires.alive c.copy.ensures.same (c.close.ensures.closed c.if-close.false) c.read.ensures.read

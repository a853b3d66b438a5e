use Rattle.std.proofs.Common.{◌≡◌, length}
use Rattle.hub_server.specs.Gates.{Gave}
use Rattle.hub_server.specs.Promised.{AreOver, streams_of}
use Rattle.hub_server.proofs.together.start_all.Given as goal

-- each session that the gate gave was started
abbrev pub invariant-sessions : goal.invariant-sessions
invariant-sessions g l = record {
  gave : Gave g.G.Gate.gives l.fn.gate (streams_of l.started.items) l.gate;
  over : AreOver g.O.Desks.opens g.O.Desks.stay l.fn.desks l.started.items;
  counted : length (streams_of l.started.items) ≡ l._session;
}

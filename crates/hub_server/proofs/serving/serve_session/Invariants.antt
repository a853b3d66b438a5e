use Rattle.hub_server.specs.Sessions.{IsEnded}
use Rattle.hub_server.specs.Turns.{Fails}
use Rattle.hub_server.proofs.serving.serve_session.Given as goal

-- so many tries were told, and the last one ended so
abbrev pub invariant-tries : goal.invariant-tries
invariant-tries g l = record {
  waited : Fails g.J.Journal.fails l._try l.initial.journal l.journal;
  ended : IsEnded (g.O.Desks.stay l.fn.desks) (g.O.Desks.opens l.fn.desks) g.O.Desks.asks g.O.Desks.ends
      (record { remaining = g.R.Read.remaining; reads = g.R.Source.reads; faults = g.R.Source.faults })
      (record { contents = g.W.Write.contents; faults = g.W.Sink.faults })
      l.fn.reader l.reader l.fn.writer l.writer l.ended;
}

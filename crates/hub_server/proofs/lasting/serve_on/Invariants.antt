use Rattle.std.proofs.Common.{ℕ}
use Rattle.hub_server.specs.Sessions.{IsEnded}
use Rattle.hub_server.specs.Turns.{Turns}
use Rattle.hub_server.proofs.lasting.serve_on.Given as goal

-- the turns so far
abbrev pub invariant-turns : goal.invariant-turns
invariant-turns g l = (count : ℕ) × Turns g.G.Gate.gives
    (record { numbers = g.J.Journal.numbers; tells = g.J.Journal.tells; fails = g.J.Journal.fails })
    (IsEnded (g.O.Desks.stay l.fn.desks) (g.O.Desks.opens l.fn.desks) g.O.Desks.asks g.O.Desks.ends
    (record { remaining = g.R.Read.remaining; reads = g.R.Source.reads; faults = g.R.Source.faults })
    (record { contents = g.W.Write.contents; faults = g.W.Sink.faults }))
    count l.fn.gate l.fn.journal l.gate l.journal

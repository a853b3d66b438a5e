use Rattle.std.proofs.Common.{take}
use Rattle.hub_ask.specs.Streams.{streams}
use Rattle.hub_commands.specs.Making.{MakesEach}
use Rattle.hub_commands.proofs.making.make_each.Given as goal

-- the names so far were made
abbrev pub invariant-names : goal.invariant-names
invariant-names g l = MakesEach
    (streams g.SW.Write.contents g.SR.Read.remaining g.F.Write.contents g.F.Sink.faults l.fn.client l.fn.notes)
    (streams g.SW.Write.contents g.SR.Read.remaining g.F.Write.contents g.F.Sink.faults l.client l.notes)
    l.wanted (take l.name-index l.names) l.outcome

use Rattle.std.proofs.Common.{◌≡◌}
use Rattle.hub_look.specs.Follows.{LooksOn, manner_of, scene}
use Rattle.hub_ask.specs.Streams.{streams}
use Rattle.hub_look.proofs.news.look_on.Given as goal

-- the hub was asked some times, and the peer began at the same sender
abbrev pub invariant-rounds : goal.invariant-rounds
invariant-rounds g l = record {
  begun : l.peer.begun ≡ l.fn.peer.begun;
  looks : LooksOn (manner_of l.following)
      (scene l.fn.all (streams g.SW.Write.contents g.SR.Read.remaining g.F.Write.contents g.F.Sink.faults l.fn.peer.client l.fn.notes) (g.W.Write.contents l.fn.output))
      (scene l.all (streams g.SW.Write.contents g.SR.Read.remaining g.F.Write.contents g.F.Sink.faults l.peer.client l.notes) (g.W.Write.contents l.output));
}

use Rattle.std.proofs.Common.{◌≡◌, length}
use Rattle.hub_look.specs.Follows.{LooksOn, manner_of, scene}
use Rattle.hub_ask.specs.Streams.{streams}
use Rattle.hub_look.proofs.news.look_at_each.Given as goal

-- the hub was asked some times, and the peer began at the same sender
abbrev pub invariant-followed : goal.invariant-followed
invariant-followed g l = record {
  begun : l.peer.begun ≡ l.fn.peer.begun;
  many : length l.all ≡ length l.fn.all;
  asked : LooksOn (manner_of l.following)
      (scene l.fn.all (streams g.SW.Write.contents g.SR.Read.remaining g.F.Write.contents g.F.Sink.faults l.fn.peer.client l.fn.notes) (g.W.Write.contents l.fn.output))
      (scene l.all (streams g.SW.Write.contents g.SR.Read.remaining g.F.Write.contents g.F.Sink.faults l.peer.client l.notes) (g.W.Write.contents l.output));
}

use Rattle.std.proofs.Common.{◌≡◌, map}
use Rattle.hub_ask.specs.Streams.{streams}
use Rattle.hub_look.proofs.Listed.{IsListedSoFar}
use Rattle.hub_look.proofs.names.all_names.Given as goal

-- the names of the pages so far, and the peer began at the same sender
abbrev pub invariant-replies : goal.invariant-replies
invariant-replies g l = record {
  begun : l.peer.begun ≡ l.fn.peer.begun;
  so_far : IsListedSoFar
      (streams g.SW.Write.contents g.SR.Read.remaining g.F.Write.contents g.F.Sink.faults l.fn.peer.client l.fn.notes)
      (streams g.SW.Write.contents g.SR.Read.remaining g.F.Write.contents g.F.Sink.faults l.peer.client l.notes)
      (map (λ name. name.bytes.items) l.names.items);
}

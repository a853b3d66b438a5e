use Rattle.std.proofs.Common.{◌≡◌, ℕ}
use Rattle.hub_ask.specs.Streams.{streams}
use Rattle.hub_look.specs.Subscribing.{AreCancelled}
use Rattle.hub_look.proofs.subscribing.subscribe_numbered.Given as goal

-- the tries so far were cancelled, and the peer began at the same sender
abbrev pub invariant-tries : goal.invariant-tries
invariant-tries g l = record {
  begun : l.peer.begun ≡ l.fn.peer.begun;
  so_far : (tries : ℕ) × AreCancelled tries
      (streams g.SW.Write.contents g.SR.Read.remaining g.F.Write.contents g.F.Sink.faults l.fn.peer.client l.fn.notes)
      (streams g.SW.Write.contents g.SR.Read.remaining g.F.Write.contents g.F.Sink.faults l.peer.client l.notes) l.name;
}

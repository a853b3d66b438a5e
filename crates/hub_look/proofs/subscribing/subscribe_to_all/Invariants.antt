use Rattle.std.proofs.Common.{◌≡◌, map, take}
use Rattle.hub_ask.specs.Streams.{streams}
use Rattle.hub_look.specs.Subscribing.{AreBegun, name_of}
use Rattle.hub_look.proofs.subscribing.subscribe_to_all.Given as goal

-- the names so far are followed, and the peer began at the same sender
abbrev pub invariant-names : goal.invariant-names
invariant-names g l = record {
  begun : l.peer.begun ≡ l.fn.peer.begun;
  named : map name_of l.all.items ≡ map (λ name. name.now) (take l.name-index l.names);
  so_far : AreBegun (λ word. word.now) l.following.pattern l.following.form
      (streams g.SW.Write.contents g.SR.Read.remaining g.F.Write.contents g.F.Sink.faults l.fn.peer.client l.fn.notes)
      (streams g.SW.Write.contents g.SR.Read.remaining g.F.Write.contents g.F.Sink.faults l.peer.client l.notes)
      (map (λ name. name.now) (take l.name-index l.names)) l.all.items;
}

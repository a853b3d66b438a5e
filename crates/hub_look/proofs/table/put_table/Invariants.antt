use Rattle.std.proofs.Common.{◌≡◌, ◌++◌, take}
use Rattle.hub_ask.specs.Streams.{streams}
use Rattle.hub_look.specs.Tables.{top_of}
use Rattle.hub_look.proofs.Judged.{IsSoFar}
use Rattle.hub_look.proofs.table.put_table.Given as goal

-- the table of the names so far
abbrev pub invariant-names : goal.invariant-names
invariant-names g l = record {
  begun : l.peer.begun ≡ l.fn.peer.begun;
  so_far : IsSoFar (λ name. name.now) l.is_json
      (streams g.SW.Write.contents g.SR.Read.remaining g.F.Write.contents g.F.Sink.faults l.fn.peer.client l.fn.notes)
      (streams g.SW.Write.contents g.SR.Read.remaining g.F.Write.contents g.F.Sink.faults l.peer.client l.notes)
      (take l.name-index l.names) l.width (l.fn.table.bytes.items ++ top_of (λ name. name.now) l.is_json l.names) l.table.bytes.items l.outcome;
}

use Rattle.std.proofs.Common.{◌+◌, length}
use Rattle.hub_io.specs.Telling.{Rises}
use Rattle.hub_client.specs.Pending.{pending}
use Rattle.hub_client.specs.Passing.{IsInPieces}
use Rattle.hub_client.proofs.buffer.Buffer.pass_reply.Given as goal

-- the pieces so far were full buffers without an LF, they were written, and there was no fault
abbrev pub invariant-pieces : goal.invariant-pieces
invariant-pieces g l = record {
  in_pieces : IsInPieces (g.R.Read.remaining l.fn.reader) (g.R.Read.remaining l.reader) (g.W.Write.contents l.fn.writer) (g.W.Write.contents l.writer)
      (g.R.Source.reads l.fn.reader) (g.R.Source.reads l.reader) (pending l.fn.self) (pending l.self) l.fn.left l.left;
  no_read_fault : Rises (g.R.Source.faults l.fn.reader) (g.R.Source.faults l.reader) 0;
  no_write_fault : Rises (g.W.Sink.faults l.fn.writer) (g.W.Sink.faults l.writer) 0;
}

abbrev pub decreases-pieces : goal.decreases-pieces
decreases-pieces g l = l.left + length (pending l.self)

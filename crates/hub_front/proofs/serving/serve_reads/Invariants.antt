use Rattle.std.proofs.Common.{◌≤◌, ◌*◌, length}
use Rattle.hub_io.specs.declared.reading.TheConstants.{CHUNK}
use Rattle.hub_io.specs.Telling.{Rises}
use Rattle.hub_front.specs.Pieces.{IsUnderWay}
use Rattle.hub_front.proofs.serving.serve_reads.Given as goal

-- the lines that end within the input so far were served, each read gave at least one byte, and there was no fault
abbrev pub invariant-reads : goal.invariant-reads
invariant-reads g l = record {
  some : 1 ≤ length l.chunk;
  chunk : length l.chunk ≤ CHUNK;
  under_way : IsUnderWay g.D.Desk.asks l.fn.desk l.desk (g.W.Write.contents l.fn.writer) (g.W.Write.contents l.writer)
      (g.R.Read.remaining l.fn.reader) (g.R.Read.remaining l.reader) l.session.line.items l.session.count l._read;
  few : l.session.count ≤ l._read * CHUNK;
  reads : Rises (g.R.Source.reads l.fn.reader) (g.R.Source.reads l.reader) l._read;
  no_read_fault : Rises (g.R.Source.faults l.fn.reader) (g.R.Source.faults l.reader) 0;
  no_write_fault : Rises (g.W.Sink.faults l.fn.writer) (g.W.Sink.faults l.writer) 0;
}

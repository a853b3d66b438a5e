use Rattle.std.proofs.Common.{◌≡◌, ◌≤◌, ◌*◌, [], length}
use Rattle.hub_io.specs.declared.reading.TheConstants.{CHUNK}
use Rattle.hub_io.specs.Telling.{Rises}
use Rattle.hub_front.specs.Pieces.{IsUnderWay}
use Rattle.hub_gather.specs.Passing.{Paces, at}
use Rattle.hub_gather.proofs.serving.serve_reads.Given as goal

-- the lines that end within the input so far were served, nothing is held, each read gave at least one byte, and there was no fault
abbrev pub invariant-reads : goal.invariant-reads
invariant-reads g l = record {
  some : 1 ≤ length l.chunk;
  chunk : length l.chunk ≤ CHUNK;
  under_way : IsUnderWay g.M.Means.asks l.fn.desk l.desk (g.M.Means.contents l.fn.writer) (g.M.Means.contents l.writer)
      (g.M.Means.remaining l.fn.reader) (g.M.Means.remaining l.reader) l.batch.line.items l.batch.count l._read;
  held : l.batch.held.items ≡ [];
  few : l.batch.count ≤ l._read * CHUNK;
  reads : Rises (g.M.Means.reads l.fn.reader) (g.M.Means.reads l.reader) l._read;
  no_read_fault : Rises (g.M.Means.failed_reads l.fn.reader) (g.M.Means.failed_reads l.reader) 0;
  no_write_fault : Rises (g.M.Means.failed_writes l.fn.writer) (g.M.Means.failed_writes l.writer) 0;
  paces : Paces (g.M.Means.history l.fn.means) (g.M.Means.history l.means) (at 0 0 []) (at l.batch.count l.batch.count []);
}

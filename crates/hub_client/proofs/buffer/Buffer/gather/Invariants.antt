use Rattle.std.proofs.Common.{◌≡◌, false, []}
use Rattle.hub_io.specs.Telling.{Rises}
use Rattle.hub_client.specs.Pending.{pending}
use Rattle.hub_io.specs.Lines.{has_lf}
use Rattle.hub_client.specs.Passing.{Moves}
use Rattle.hub_client.proofs.buffer.Buffer.gather.Given as goal

-- the pending bytes are at the beginning of the buffer and have no LF, and there was no fault
abbrev pub invariant-reads : goal.invariant-reads
invariant-reads g l = record {
  moved : Moves (g.R.Read.remaining l.fn.reader) (g.R.Read.remaining l.reader) (g.R.Source.reads l.fn.reader) (g.R.Source.reads l.reader)
      (pending l.fn.self) (pending l.self) l.fn.left l.left 0 [];
  front : l.self.start ≡ 0;
  cut : has_lf (pending l.self) ≡ false;
  no_fault : Rises (g.R.Source.faults l.fn.reader) (g.R.Source.faults l.reader) 0;
}

abbrev pub decreases-reads : goal.decreases-reads
decreases-reads g l = l.left

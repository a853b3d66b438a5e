use Rattle.std.proofs.Common.{◌≤◌, ◌-◌, length, take}
use Rattle.std.specs.Io.KnownBytes.{Appends}
use Rattle.hub_io.specs.Telling.{Rises}
use Rattle.hub_io.proofs.writing.write_whole.Given as goal

-- the bytes so far were written, and there was no fault
abbrev pub invariant-parts : goal.invariant-parts
invariant-parts g l = record {
  within : l.written ≤ length l.bytes;
  held : Appends (g.W.Write.contents l.fn.writer) (g.W.Write.contents l.writer) (take l.written l.bytes);
  quiet : Rises (g.W.Sink.faults l.fn.writer) (g.W.Sink.faults l.writer) 0;
}

abbrev pub decreases-parts : goal.decreases-parts
decreases-parts g l = length l.bytes - l.written

use Rattle.std.proofs.Common.{◌≡◌, ◌++◌, replicate}
use Rattle.circular_buffer.specs.Buffer.{buffer}
use Rattle.hub_record.proofs.counts.add_zeros.Given as goal

abbrev pub invariant-loop : goal.invariant-loop
invariant-loop l = l.counts ≡ buffer (l.fn.counts.items ++ replicate l.counter 0) l.fn.counts.capacity

use Rattle.std.proofs.Common.{◌≡◌, ◌++◌, ◌*◌, replicate}
use Rattle.circular_buffer.specs.Buffer.{buffer}
use Rattle.hub_record.proofs.counts.add_blocks.Given as goal

abbrev pub invariant-loop : goal.invariant-loop
invariant-loop l = l.counts ≡ buffer (l.fn.counts.items ++ replicate (32 * l.counter) 0) l.fn.counts.capacity

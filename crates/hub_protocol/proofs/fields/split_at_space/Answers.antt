use Rattle.std.proofs.Common.{arith}
use Rattle.hub_protocol.proofs.Splits.{fields_of-at, fields_of-none}
use Rattle.hub_protocol.proofs.fields.split_at_space.Goals as goal

pub returns-then-text-i-eq32 : goal.returns-then-text-i-eq32
returns-then-text-i-eq32 c = fields_of-at c.args.text.now c.loop-i.i c.loop-i-test.true c.loop-i.invariant c.if-text-i-eq32.true

pub returns : goal.returns
returns c = fields_of-none c.args.text.now (λ k below. c.loop-i.invariant k (omega arith))

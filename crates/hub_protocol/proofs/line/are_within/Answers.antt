use Rattle.std.proofs.Common.{arith}
use Rattle.hub_protocol.proofs.FieldLists.{in_range_more, out_of_range}
use Rattle.hub_protocol.proofs.line.are_within.Goals as goal

pub returns-then-not-is_within : goal.returns-then-not-is_within
returns-then-not-is_within c =
    out_of_range c.args.kinds.now c.args.fields.now c.loop-i.i _ _ c.loop-i-test.true (omega (arith, c.requires, c.loop-i-test.true)) c.if-not-is_within.ensures

pub loop-i-preserved : goal.loop-i-preserved
loop-i-preserved c =
    in_range_more c.args.kinds.now c.args.fields.now c.loop-i.i _ _ c.loop-i-test.true (omega (arith, c.requires, c.loop-i-test.true)) c.if-not-is_within.ensures c.loop-i.invariant

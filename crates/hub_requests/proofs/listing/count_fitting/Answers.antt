use Rattle.std.proofs.Common.{◌+◌, length, take, sym, ap, ◌∙◌, arith}
use Rattle.hub_requests.proofs.FittingNames.{greatest_fit-is, short_fits, long_fails}
use Rattle.hub_requests.proofs.NamesText.{length-listed, length-names_text-more}
use Rattle.hub_requests.proofs.listing.count_fitting.Goals as goal

pub returns-then-needed-room-clause-count : goal.returns-then-needed-room-clause-count
returns-then-needed-room-clause-count c =
    let names = c.args.names.now in
    let i = c.loop-i.i in
    let kept = c.loop-i.invariant in
    let inside = c.loop-i-test.true in
    let so_far = length-listed (take c.loop-i.i c.args.names.now) in
    let more = length-names_text-more c.args.names.now c.loop-i.i c.index-names-i.result inside in
    let grown = length-listed (take (c.loop-i.i + 1) c.args.names.now) in
    let here = ap length (c.bytes.ensures ∙ c.index-names-i.is) in
    let full = c.if-needed-room.true in
    sym (greatest_fit-is c.args.names.now c.loop-i.i (length c.args.names.now) (omega (arith, inside))
    (short_fits (take c.loop-i.i c.args.names.now) (omega (arith, kept, so_far)))
    (λ _. long_fails (take (c.loop-i.i + 1) c.args.names.now) (omega (arith, kept, more, grown, here, full))))

pub loop-i-preserved : goal.loop-i-preserved
loop-i-preserved c =
    let more = length-names_text-more c.args.names.now c.loop-i.i c.index-names-i.result c.loop-i-test.true in
    let here = ap length (c.bytes.ensures ∙ c.index-names-i.is) in
    omega (arith, c.loop-i.invariant, more, here, c.if-needed-room.false)

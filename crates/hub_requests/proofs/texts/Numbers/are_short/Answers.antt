use Rattle.std.proofs.Common.{None, length-append, arith}
use Rattle.hub_requests.proofs.NumbersText.{numbers_text-more}
use Rattle.hub_requests.proofs.texts.Numbers.are_short.Goals as goal

pub loop-number-preserved : goal.loop-number-preserved
loop-number-preserved c =
    let more = numbers_text-more c.deref-number-items.result.now c.loop-number.number-index None c.loop-number-test.true in
    let one = c.number_or_dash_is_short.ensures in
    rw more (simp (length-append) (omega arith))

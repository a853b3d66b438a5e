use Rattle.std.proofs.Common.{rules, arith, ◌≡◌, ◌+◌, ◌==◌, if◌then◌else◌, false, take, get_or, sym, ap, ◌∙◌}
use Rattle.hub_ask.specs.Bounding.{unfinished_after}
use Rattle.hub_ask.proofs.Counting.{unfinished-more}
use Rattle.hub_ask.proofs.bounded.count_unfinished.Goals as goal
use Rattle.hub_ask.proofs.bounded.count_unfinished.Goals.{then-byte-eq10, else-byte-eq10}

pub bytes-preserved : goal.bytes-preserved
bytes-preserved c =
    let n = c.args.unfinished in
    let before = take c.bytes.byte-index c.args.bytes.now in
    let byte = get_or c.args.bytes.now c.bytes.byte-index 0 in
    let more = unfinished-more c.args.bytes.now n c.bytes.byte-index 0 (search rules) in
    elim c.if-byte-eq10.branch [
      | then-byte-eq10 w ↦ record {
        counted = w.count-is ∙ sym (more ∙ ap (λ b. if b == 10 then 0 else unfinished_after n before + 1) w.if-byte-eq10.true);
        few = omega (arith, w.count-is);
      }
      | else-byte-eq10 w ↦
          let other : (byte == 10) ≡ false = search rules in
          record {
            counted = w.count-is ∙ ap (λ k. k + 1) c.bytes.invariant.counted ∙ sym (more ∙ ap (λ t. if t then 0 else unfinished_after n before + 1) other);
            few = omega (arith, w.count-is, c.bytes.invariant.few);
          }
    ]

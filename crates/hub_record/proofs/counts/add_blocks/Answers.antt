use Rattle.std.proofs.Common.{◌≡◌, ℕ, ◌+◌, ◌*◌, ◌<◌, ◌++◌, length, take, replicate, ap, ◌∙◌, append_assoc, length-append, arith, rules}
use Rattle.std.proofs.lemmas.List.{replicate-append-replicate, length-replicate}
use Rattle.circular_buffer.specs.Buffer.{Buffer, buffer}
use Rattle.hub_record.proofs.counts.add_blocks.Goals as goal

pub loop-preserved : goal.loop-preserved
loop-preserved c =
    let k = c.loop.counter in
    let n = c.fill_from_slice.ensures.count in
    let old = c.args.counts.now.items in
    let is : c.loop.counts.items ≡ old ++ replicate (32 * k) 0 = ap (λ (b : Buffer ℕ). b.items) c.loop.invariant in
    let room : c.loop.counts.capacity ≡ c.args.counts.now.capacity = ap (λ (b : Buffer ℕ). b.capacity) c.loop.invariant in
    let long : length c.loop.counts.items ≡ length old + 32 * k = ap length is ∙ length-append old (replicate (32 * k) 0) ∙ ap (λ m. length old + m) (length-replicate (32 * k) 0) in
    let left : k < c.args.blocks = search rules in
    let whole : c.fill_from_slice.result ≡ 32 = omega (arith, n, long, room, c.requires, left) in
    let sum : 32 * k + 32 ≡ 32 * (k + 1) = omega arith in
    c.fill_from_slice.ensures.items
    ∙ (λ i. buffer (is i ++ take (whole i) (replicate 32 0)) (room i))
    ∙ ap (λ l. buffer l c.args.counts.now.capacity) (append_assoc old (replicate (32 * k) 0) (replicate 32 0) ∙ ap (λ l. old ++ l) (replicate-append-replicate (32 * k) 32 0 ∙ ap (λ m. replicate m 0) sum))

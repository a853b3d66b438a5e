use Rattle.std.proofs.Common.{◌≡◌, ℕ, ◌+◌, ◌*◌, ◌/◌, ◌%◌, ◌++◌, replicate, ap, ◌∙◌, append_assoc, arith, rules}
use Rattle.std.proofs.lemmas.List.{replicate-append-replicate}
use Rattle.circular_buffer.specs.Buffer.{Buffer, buffer}
use Rattle.hub_record.proofs.counts.add_zeros.Goals as goal

pub returns : goal.returns
returns c =
    let more = c.args.more in
    let k = c.loop.counter in
    let old = c.args.counts.now.items in
    let last : k ≡ more % 32 = search rules in
    let is : c.loop.counts.items ≡ old ++ replicate k 0 = ap (λ (b : Buffer ℕ). b.items) c.loop.invariant in
    let room : c.loop.counts.capacity ≡ c.args.counts.now.capacity = ap (λ (b : Buffer ℕ). b.capacity) c.loop.invariant in
    let sum : k + 32 * (more / 32) ≡ more = omega (arith, last) in
    c.add_blocks.ensures
    ∙ (λ i. buffer (is i ++ replicate (32 * (more / 32)) 0) (room i))
    ∙ ap (λ l. buffer l c.args.counts.now.capacity) (append_assoc old (replicate k 0) (replicate (32 * (more / 32)) 0) ∙ ap (λ l. old ++ l) (replicate-append-replicate k (32 * (more / 32)) 0 ∙ ap (λ m. replicate m 0) sum))

use Rattle.std.proofs.Common.{◌≤◌, ◌<◌, ◌^◌, ℕ, arith, lit<}
use Rattle.std.proofs.Math.Nat.{pow-le-pow_right}
use Rattle.hub_protocol.proofs.fields.digits_value.Goals as goal

below : (i v : ℕ) → v < 10 ^ i → i ≤ 12 → v < 10 ^ 12
below i v h e = let most : 10 ^ i ≤ 10 ^ 12 = pow-le-pow_right {n = 10} (lit< tt) {i = i} {j = 12} e in omega (arith, h)

pub overflow_mul-value : goal.overflow_mul-value
overflow_mul-value c =
    let most : c.loop-b.value < 10 ^ 12 = below c.loop-b.b-index _ c.loop-b.invariant.small (omega (arith, c.requires, c.loop-b-test.true)) in
    omega arith

pub overflow_add-value : goal.overflow_add-value
overflow_add-value c =
    let most : c.loop-b.value < 10 ^ 12 = below c.loop-b.b-index _ c.loop-b.invariant.small (omega (arith, c.requires, c.loop-b-test.true)) in
    let byte : c.from.result < 256 = let fits = c.type_inv.text c.loop-b.b-index in omega (arith, fits, c.from.ensures) in
    omega arith

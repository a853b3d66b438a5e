use Rattle.std.proofs.Common.{ℕ, ◌≡◌, Bool, false, not, nat_lt, get_or, sym, ap, ◌∙◌, arith}
use Rattle.std.proofs.lemmas.List.Sums.{prefix_len-le-length}
use Rattle.circular_buffer.specs.Buffer.{Buffer}
use Rattle.hub_record.proofs.Places.{first_between, first_none, first_apart, first_nowhere}
use Rattle.hub_record.proofs.counts.first_place.Goals as goal

-- no cursor is at the first place
none_first : (shown seen : Buffer ℕ) (some : Bool) → shown ≡ seen → some ≡ nat_lt 0 (get_or seen.items 0 0) → some ≡ false → nat_lt 0 (get_or shown.items 0 0) ≡ false
none_first shown seen some view is apart = ap (λ (b : Buffer ℕ). nat_lt 0 (get_or b.items 0 0)) view ∙ sym is ∙ apart

pub returns-then-place-len : goal.returns-then-place-len
returns-then-place-len c =
    let within = prefix_len-le-length (λ n. not (nat_lt 0 n)) c.counts.inside.later.items in
    first_between c.counts.inside.first c.counts.inside.later.capacity _ c.counts.inside.later.items c.counts.inside.last _ (none_first _ _ _ c.counts.view_is c.has_first.ensures c.if-has_first.false)
    (omega (arith, within, c.first_in.ensures, c.len.ensures.len, c.len-2.ensures.len, c.min-place.ensures, c.if-place-len.true))
    (omega (arith, within, c.first_in.ensures, c.len.ensures.len, c.len-2.ensures.len, c.min-place.ensures, c.if-place-len.true)) c.counts.view_is

pub returns-in_default : goal.returns-in_default
returns-in_default c =
    let within = prefix_len-le-length (λ n. not (nat_lt 0 n)) c.counts.inside.later.items in
    first_none c.counts.inside.first c.counts.inside.later.capacity _ c.counts.inside.later.items c.counts.inside.last _ (none_first _ _ _ c.counts.view_is c.has_first.ensures c.if-has_first.false)
    (omega (arith, within, c.first_in.ensures, c.len.ensures.len, c.len-2.ensures.len, c.min-place.ensures, c.if-place-len.false))
    c.in_default.is c.counts.view_is

pub returns-then-last-gt0 : goal.returns-then-last-gt0
returns-then-last-gt0 c =
    let within = prefix_len-le-length (λ n. not (nat_lt 0 n)) c.counts.inside.later.items in
    first_apart c.counts.inside.first c.counts.inside.later.capacity _ _ c.counts.inside.later.items c.counts.inside.last _ (none_first _ _ _ c.counts.view_is c.has_first.ensures c.if-has_first.false)
    (omega (arith, within, c.first_in.ensures, c.len.ensures.len, c.len-2.ensures.len, c.min-place.ensures, c.if-place-len.false))
    (omega (arith, within, c.first_in.ensures, c.len.ensures.len, c.len-2.ensures.len, c.min-place.ensures, c.if-place-len.false)) c.in-Some.is c.if-last-gt0.true c.counts.view_is

pub returns : goal.returns
returns c =
    let within = prefix_len-le-length (λ n. not (nat_lt 0 n)) c.counts.inside.later.items in
    first_nowhere c.counts.inside.first c.counts.inside.later.capacity _ _ c.counts.inside.later.items c.counts.inside.last _ (none_first _ _ _ c.counts.view_is c.has_first.ensures c.if-has_first.false)
    (omega (arith, within, c.first_in.ensures, c.len.ensures.len, c.len-2.ensures.len, c.min-place.ensures, c.if-place-len.false))
    (omega (arith, within, c.first_in.ensures, c.len.ensures.len, c.len-2.ensures.len, c.min-place.ensures, c.if-place-len.false)) c.in-Some.is c.if-last-gt0.false c.counts.view_is

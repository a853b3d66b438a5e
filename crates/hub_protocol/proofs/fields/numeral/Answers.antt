use Rattle.std.proofs.Common.{inl, inr, ◌≡◌, length, get_or, refl, sym, subst, arith}
use Rattle.hub_protocol.specs.Fields.{IsNumeralOf}
use Rattle.hub_protocol.proofs.Numerals.{no_numeral, is_numeral}
use Rattle.hub_protocol.proofs.fields.numeral.Goals as goal
use Rattle.hub_protocol.proofs.fields.numeral.Goals.{then-is_empty-via-then-is_empty, then-is_empty-via-else-is_empty+then-text-gt-MOST_DIGITS, then-is_empty-via-else-is_empty+else-text-gt-MOST_DIGITS+then-has_leading_zero}

pub returns-then-is_empty : goal.returns-then-is_empty
returns-then-is_empty c = elim c.then-is_empty.branch [
  | then-is_empty-via-then-is_empty w ↦ no_numeral _ (inl (grind arith))
  | then-is_empty-via-else-is_empty+then-text-gt-MOST_DIGITS w ↦ no_numeral _ (inr (inl (omega arith)))
  | then-is_empty-via-else-is_empty+else-text-gt-MOST_DIGITS+then-has_leading_zero w ↦ no_numeral _ (inr (inr (w.if-has_leading_zero.ensures.0 refl)))
]

pub returns : goal.returns
returns c =
    let one : get_or c.args.text.now 0 0 ≡ 48 → length c.args.text.now ≡ 1 = λ zero'. grind arith in
    subst (IsNumeralOf c.args.text.now) (sym c.digits_value.ensures) (is_numeral c.args.text.now (grind arith) (omega arith) one)

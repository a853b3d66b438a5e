use Rattle.std.proofs.Common.{◌∙◌, ap, inl, inr, sym, arith, length}
use Rattle.hub_commands.proofs.waiting.check_names.Goals as goal

pub returns-then-names-gt-MOST_SERVICES : goal.returns-then-names-gt-MOST_SERVICES
returns-then-names-gt-MOST_SERVICES c = (sym c.are_names.ensures ∙ c.if-not-are_names.false, inl c.if-names-gt-MOST_SERVICES.true)

pub returns-then-as_bytes-gt-LONGEST_LINE : goal.returns-then-as_bytes-gt-LONGEST_LINE
returns-then-as_bytes-gt-LONGEST_LINE c = (sym c.are_names.ensures ∙ c.if-not-are_names.false, inr (omega (arith, c.if-as_bytes-gt-LONGEST_LINE.true, ap length c.as_bytes.ensures.bytes)))

pub returns : goal.returns
returns c = (
  sym c.are_names.ensures ∙ c.if-not-are_names.false,
  omega (arith, c.if-names-gt-MOST_SERVICES.false),
  omega (arith, c.if-as_bytes-gt-LONGEST_LINE.false, ap length c.as_bytes.ensures.bytes),
)

use Rattle.std.proofs.Common.{codes}
use Rattle.hub_ask.proofs.Durations.{parts_alone, parts_of_h, parts_of_m, parts_of_ms, parts_of_s, stripped}
use Rattle.hub_ask.proofs.duration.parts_of.Goals as goal

pub returns-in-Some : goal.returns-in-Some
returns-in-Some c = parts_of_ms c.args.text.now c.in-Some.number.now (stripped (codes "ms") _ _ c.in-Some.ensures.cases)

pub returns-in-Some-strip_suffix : goal.returns-in-Some-strip_suffix
returns-in-Some-strip_suffix c =
    parts_of_s c.args.text.now c.in-Some-strip_suffix.number.now (stripped (codes "s") _ _ c.in-Some-strip_suffix.ensures.cases) c.in_default.ensures.cases

pub returns-in-Some-strip_suffix-2 : goal.returns-in-Some-strip_suffix-2
returns-in-Some-strip_suffix-2 c =
    parts_of_m c.args.text.now c.in-Some-strip_suffix-2.number.now (stripped (codes "m") _ _ c.in-Some-strip_suffix-2.ensures.cases)

pub returns-in-Some-strip_suffix-3 : goal.returns-in-Some-strip_suffix-3
returns-in-Some-strip_suffix-3 c =
    parts_of_h c.args.text.now c.in-Some-strip_suffix-3.number.now (stripped (codes "h") _ _ c.in-Some-strip_suffix-3.ensures.cases)

pub returns-in_default-strip_suffix-3 : goal.returns-in_default-strip_suffix-3
returns-in_default-strip_suffix-3 c =
    parts_alone c.args.text.now (record { ms = c.in_default.ensures.cases; s = c.in_default-strip_suffix.ensures.cases; m = c.in_default-strip_suffix-2.ensures.cases; h = c.in_default-strip_suffix-3.ensures.cases })

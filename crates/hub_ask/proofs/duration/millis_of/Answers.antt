use Rattle.std.proofs.Common.{◌*◌, ap, arith}
use Rattle.hub_ask.proofs.Durations.{number_too_large, of_thousandths}
use Rattle.hub_ask.proofs.duration.millis_of.Goals as goal
use Rattle.hub_ask.proofs.duration.millis_of.Goals.{then-micros-ne0-via-then-micros-ne0, then-micros-ne0-via-else-micros-ne0+then-millis-gt-MOST_MILLIS}

pub returns-in_err-thousandths_of-clause-none : goal.returns-in_err-thousandths_of-clause-none
returns-in_err-thousandths_of-clause-none c =
    rw c.from_residual.ensures (number_too_large _ _ _ c.parts_of-unit.ensures c.in_err-thousandths_of.ensures.none)

pub returns-in_err-micros-clause-none : goal.returns-in_err-micros-clause-none
returns-in_err-micros-clause-none c =
    rw c.from_residual-in_err-micros.ensures (of_thousandths _ _ _ c.in_ok-thousandths_of.field-0 c.parts_of-unit.ensures c.in_ok-thousandths_of.ensures.some
    (λ millis counted. let over = c.in_err-micros.ensures in omega (arith, counted, over)))

pub returns-then-micros-ne0-clause-none : goal.returns-then-micros-ne0-clause-none
returns-then-micros-ne0-clause-none c =
    let made = c.in_ok-micros.ensures.1 in
    of_thousandths _ _ _ c.in_ok-thousandths_of.field-0 c.parts_of-unit.ensures c.in_ok-thousandths_of.ensures.some
    (λ millis counted. elim c.then-micros-ne0.branch [
      | then-micros-ne0-via-then-micros-ne0 w ↦ (let part = w.if-micros-ne0.true in absurd (omega (arith, counted, made, part)))
      | then-micros-ne0-via-else-micros-ne0+then-millis-gt-MOST_MILLIS w ↦ (let over = w.if-millis-gt-MOST_MILLIS.true in omega (arith, counted, made, over))
    ])

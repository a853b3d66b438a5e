use Rattle.hub_ask.proofs.duration.fraction_of.Goals as goal

pub returns-in_err-place-clause-none : goal.returns-in_err-place-clause-none
returns-in_err-place-clause-none c = rw c.from_residual.ensures (λ thousandths it. absurd (c.in_err-place.ensures it.place it.of_place))

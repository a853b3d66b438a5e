use Rattle.std.proofs.Common.{◌∷◌, ap, sym, ◌∙◌}
use Rattle.std.specs.Fmt.{decimal}
use Rattle.hub_protocol.proofs.ReplyReadings.{behind_first}
use Rattle.hub_protocol.proofs.about.numbers_in.Goals as goal

pub returns-in_err-first : goal.returns-in_err-first
returns-in_err-first c = rw c.from_residual.ensures (λ first second more f s e. c.in_err-first.ensures first (decimal second ∷ more) f e)

pub returns-in_err-second : goal.returns-in_err-second
returns-in_err-second c = rw c.from_residual-in_err-second.ensures (λ first second more f s e.
    let a = sym c.in_ok-first.ensures.1 ∙ e in
    c.in_err-second.ensures second more s (behind_first _ _ _ _ a))

pub returns : goal.returns
returns c = (
  c.in_ok-first.ensures.0,
  c.in_ok-second.ensures.0,
  c.in_ok-first.ensures.1 ∙ ap (λ ps. decimal c.in_ok-first.first ∷ ps) c.in_ok-second.ensures.1,
)

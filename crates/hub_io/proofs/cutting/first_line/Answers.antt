use Rattle.std.proofs.Common.{◌≡◌, None, false, MatchOption, sym, ◌∙◌, subst, rules}
use Rattle.hub_io.specs.Lines.{has_lf, BeginsWith}
use Rattle.hub_io.proofs.Lines.{first, none}
use Rattle.hub_io.proofs.cutting.first_line.Goals as goal

pub returns-in_err-place : goal.returns-in_err-place
returns-in_err-place c =
    let bytes = c.args.bytes.now in
    let is : c.from_residual.result ≡ None = search rules in
    subst (λ r. MatchOption r (has_lf bytes ≡ false) (λ parts. BeginsWith bytes parts.0.now parts.1.now)) (sym is) (none bytes (sym c.line_feed.ensures ∙ c.in_err-place.was))

pub returns : goal.returns
returns c = first c.args.bytes.now c.in_ok-place.place (sym c.line_feed.ensures ∙ c.in_ok-place.was)

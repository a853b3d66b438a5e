use Rattle.std.proofs.Common.{sym, ◌∙◌}
use Rattle.hub_serving.proofs.CarriedOut.{accepted, no_refusal, passed_over}
use Rattle.hub_serving.proofs.setup.ask_line.Goals as goal

pub returns-then-not-asks_something-clause-ok : goal.returns-then-not-asks_something-clause-ok
returns-then-not-asks_something-clause-ok g c = passed_over _ _ _ (sym c.asks_something.ensures ∙ c.if-not-asks_something.true)

pub returns-clause-ok : goal.returns-clause-ok
returns-clause-ok g c =
    accepted _ _ _ _ c.in_ok-request.request c.ask.result (sym c.asks_something.ensures ∙ c.if-not-asks_something.false) c.in_ok-request.ensures.reading c.ask.ensures
    (no_refusal c.ask.result c.in_default.not-No)

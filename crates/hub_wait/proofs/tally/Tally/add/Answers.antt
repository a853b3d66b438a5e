use Rattle.std.proofs.Common.{rules, ◌≡◌, ◌∙◌}
use Rattle.hub_wait.specs.Verdicts.{is_bar}
use Rattle.hub_wait.proofs.Tallies.{all-push, any-push}
use Rattle.hub_wait.proofs.tally.Tally.add.Goals as goal
use Rattle.hub_wait.proofs.tally.Tally.add.Goals.{then-not-met, else-not-met}

pub returns-after-not-met : goal.returns-after-not-met
returns-after-not-met c = λ span watches e.
    let barred : c.if-not-met.self ≡ is_bar c.args.watch.now = elim c.if-not-met.branch [ then-not-met w ↦ search rules | else-not-met w ↦ search rules ] in
    rw (c.met-met.ensures, barred) (all-push span watches _ c.args.watch.now c.in-All.is (c.self.view_is ∙ e))

pub returns-in-Any : goal.returns-in-Any
returns-in-Any c = λ span watches e.
    rw (c.met-met.ensures, c.is_lost-lost.ensures) (any-push span watches _ c.args.watch.now c.in-Any.is (c.self.view_is ∙ e))

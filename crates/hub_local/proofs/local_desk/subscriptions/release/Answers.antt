use Rattle.std.proofs.Common.{ap, subst, sym}
use Rattle.hub_local.specs.Desks.{without_held}
use Rattle.hub_local.specs.Representing.{AreKept}
use Rattle.hub_local.proofs.AskingSubscriptions.{released, unreleased}
use Rattle.hub_local.proofs.local_desk.subscriptions.release.Goals as goal

pub returns-in-Some : goal.returns-in-Some
returns-in-Some c = λ model kept.
    subst (λ es. AreKept es (without_held model c.args.holding.now)) (sym (c.get_mut.follows.holds _).0)
    (released _ model c.args.holding.now c.in-Some.fifodir.now c.cancel.new.self kept (sym c.in-Some.ensures.value) c.cancel.ensures.after)

pub returns-in_default : goal.returns-in_default
returns-in_default c = λ model kept.
    subst (λ es. AreKept es (without_held model c.args.holding.now)) (sym (ap (λ m. m.entries) c.get_mut.follows.holds-at-none))
    (unreleased _ model c.args.holding.now kept (sym c.in_default.ensures.value))

use Rattle.std.proofs.Common.{ap, subst, sym, None}
use Rattle.hub_local.specs.Representing.{AreKept}
use Rattle.hub_local.specs.Waits.{without_subscription}
use Rattle.hub_local.specs.declared.local_desk.Holding.{Holding}
use Rattle.hub_local.proofs.AskingSubscriptions.{released, unreleased}
use Rattle.hub_local.proofs.local_desk.waits.cancel_at.Goals as goal

pub returns-in-Some : goal.returns-in-Some
returns-in-Some c = λ model kept.
    let h : Holding = record { name = c.args.name.now; id = c.args.id; hearing = None } in
    subst (λ es. AreKept es (without_subscription model c.args.name.now c.args.id)) (sym (c.get_mut.follows.holds _).0)
    (released _ model h c.in-Some.fifodir.now c.cancel.new.self kept (sym c.in-Some.ensures.value) c.cancel.ensures.after)

pub returns-in_default : goal.returns-in_default
returns-in_default c = λ model kept.
    let h : Holding = record { name = c.args.name.now; id = c.args.id; hearing = None } in
    subst (λ es. AreKept es (without_subscription model c.args.name.now c.args.id)) (sym (ap (λ m. m.entries) c.get_mut.follows.holds-at-none))
    (unreleased _ model h kept (sym c.in_default.ensures.value))

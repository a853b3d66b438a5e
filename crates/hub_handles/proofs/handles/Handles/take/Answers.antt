use Rattle.std.proofs.Common.{refl, sym, subst, inl, Option, IsSome}
use Rattle.hub_handles.specs.declared.subscription.Subscription.{Subscription}
use Rattle.hub_handles.proofs.handles.Handles.take.Goals as goal

pub returns : goal.returns
returns g c =
    let put = (c.get_mut.follows.holds c.take.new.self).3 (subst (λ (o : Option Subscription). IsSome o) c.in-Some.ensures.value refl) in
    inl (record {
      under = record { before = c.in-Some.subscription.now; after = c.take.new.self; held = sym c.in-Some.ensures.value; step = c.take.ensures; kept = put.1; others = put.2 };
      listeners = refl;
      given = refl;
    })

use Rattle.std.proofs.Common.{rules, refl, sym, subst, inl, inr, Option, IsSome, Bool, true, false, ◌≡◌, if◌then◌else◌, MatchBool}
use Rattle.hub_requests.specs.declared.reply.Reply.{Reply}
use Rattle.hub_requests.specs.declared.reply.Reply.TheVariants.{Done, Late}
use Rattle.hub_handles.specs.declared.session_listener.SessionListener.{SessionListener}
use Rattle.hub_handles.specs.declared.subscription.Subscription.{Subscription}
use Rattle.hub_handles.specs.Awaiting.{Tells}
use Rattle.hub_handles.proofs.handles.Handles.await_more.Goals as goal

told : (More None : Type 0) (more : Bool) (reply : Reply) → reply ≡ (if more then Done else Late) → MatchBool more More None → Tells More None reply
told More None true reply e m = subst (Tells More None) (sym e) m
told More None false reply e m = subst (Tells More None) (sym e) m

pub returns-in-Some : goal.returns-in-Some
returns-in-Some g c =
    let put = (c.get_mut.follows.holds c.await_more.new.self).3 (subst (λ (o : Option Subscription). IsSome o) c.in-Some.ensures.value refl) in
    inl (record {
      under = record {
        before = c.in-Some.subscription.now;
        after = c.await_more.new.self;
        held = sym c.in-Some.ensures.value;
        step = (c.await_more.ensures.looked, told _ _ c.await_more.result _ c.reply_of.ensures c.await_more.ensures.more);
        kept = put.1;
        others = put.2;
      };
      listeners = refl;
      given = refl;
    })

pub returns : goal.returns
returns g c =
    let put = (c.get_mut-2.follows.holds c.await_more-2.new.self).3 (subst (λ (o : Option SessionListener). IsSome o) c.in-Some-get_mut.ensures.value refl) in
    inr (inl (record {
      under = record {
        before = c.in-Some-get_mut.listener.now;
        after = c.await_more-2.new.self;
        held = sym c.in-Some-get_mut.ensures.value;
        step = (c.await_more-2.ensures.looked, told _ _ c.await_more-2.result _ c.reply_of-2.ensures c.await_more-2.ensures.more);
        kept = put.1;
        others = put.2;
      };
      subscriptions = search (rules, c.get_mut.follows);
      given = refl;
    }))

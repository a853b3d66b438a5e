use Rattle.std.proofs.Common.{rules, refl, sym, subst, ◌∙◌, inl, Option, IsSome}
use Rattle.hub_handles.specs.declared.session_listener.SessionListener.{SessionListener}
use Rattle.hub_handles.specs.declared.subscription.Subscription.{Subscription}
use Rattle.hub_handles.specs.Handles.{listener_of}
use Rattle.hub_handles.proofs.Hearings.{gone_if, stays_if}
use Rattle.hub_handles.proofs.Nexts.{tells_here}
use Rattle.hub_handles.proofs.handles.Handles.tell_next.Goals as goal

pub returns-in-Some : goal.returns-in-Some
returns-in-Some g c =
    let put = (c.get_mut.follows.holds c.next.new.self).3 (subst (λ (o : Option Subscription). IsSome o) c.in-Some.ensures.value refl) in
    inl (record {
      under = record { before = c.in-Some.subscription.now; after = c.next.new.self; held = sym c.in-Some.ensures.value; step = c.next.ensures; kept = put.1; others = put.2 };
      listeners = refl;
      given = refl;
    })

pub returns-then-ends_with : goal.returns-then-ends_with
returns-then-ends_with g c =
    let put = (c.get_mut-2.follows.holds c.next-reply.new.self).3 (subst (λ (o : Option SessionListener). IsSome o) c.in-Some-get_mut.ensures.value refl) in
    let ended = c.end_listener.ensures in
    tells_here _ _ c.args.id c.in-Some-get_mut.hearing.now c.next-reply.new.self _ c.in-Some-get_mut.ensures.value c.next-reply.ensures
    (gone_if c.next-reply.new.self (listener_of c.end_listener.new.self c.args.id) _ (sym c.ends_with.ensures ∙ c.if-ends_with.true) ended.gone)
    (λ other h. ended.others other h ∙ put.2 other h) (search (rules, c.get_mut.follows, ended.subscriptions)) ended.given

pub returns-else-ends_with : goal.returns-else-ends_with
returns-else-ends_with g c =
    let put = (c.get_mut-2.follows.holds c.next-reply.new.self).3 (subst (λ (o : Option SessionListener). IsSome o) c.in-Some-get_mut.ensures.value refl) in
    tells_here _ _ c.args.id c.in-Some-get_mut.hearing.now c.next-reply.new.self _ c.in-Some-get_mut.ensures.value c.next-reply.ensures
    (stays_if c.next-reply.new.self _ _ (sym c.ends_with.ensures ∙ c.if-ends_with.false) put.1) put.2 (search (rules, c.get_mut.follows)) refl

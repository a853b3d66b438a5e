use Rattle.std.proofs.Common.{refl, sym, subst, ◌∙◌, Option, IsSome}
use Rattle.hub_handles.specs.declared.session_listener.SessionListener.{SessionListener}
use Rattle.hub_handles.specs.Handles.{listener_of}
use Rattle.hub_handles.proofs.Hearings.{gone_if, stays_if, polls_here}
use Rattle.hub_handles.proofs.handles.Handles.poll.Goals as goal

pub returns-then-ends_with : goal.returns-then-ends_with
returns-then-ends_with g c =
    let put = (c.get_mut.follows.holds c.poll-reply.new.self).3 (subst (λ (o : Option SessionListener). IsSome o) c.in-Some.ensures.value refl) in
    let ended = c.end_listener.ensures in
    polls_here _ _ c.args.id c.in-Some.hearing.now c.poll-reply.new.self _ c.in-Some.ensures.value c.poll-reply.ensures
    (gone_if c.poll-reply.new.self (listener_of c.end_listener.new.self c.args.id) _ (sym c.ends_with.ensures ∙ c.if-ends_with.true) ended.gone)
    (λ other h. ended.others other h ∙ put.2 other h) ended.subscriptions ended.given

pub returns-else-ends_with : goal.returns-else-ends_with
returns-else-ends_with g c =
    let put = (c.get_mut.follows.holds c.poll-reply.new.self).3 (subst (λ (o : Option SessionListener). IsSome o) c.in-Some.ensures.value refl) in
    polls_here _ _ c.args.id c.in-Some.hearing.now c.poll-reply.new.self _ c.in-Some.ensures.value c.poll-reply.ensures
    (stays_if c.poll-reply.new.self _ _ (sym c.ends_with.ensures ∙ c.if-ends_with.false) put.1) put.2 refl refl

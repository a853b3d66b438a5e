use Rattle.std.proofs.Common.{◌+◌, refl, sym, subst, ap, ◌∙◌, nat_eq, arith}
use Rattle.std.proofs.lemmas.Bool.{ne_eqb}
use Rattle.std.specs.Map.{lookup}
use Rattle.hub_handles.specs.declared.subscription.Subscription.{Subscription}
use Rattle.hub_handles.specs.Taking.{Begins}
use Rattle.std.specs.Arc.{arc_value}
use Rattle.hub_handles.proofs.Numbering.{adds_listener}
use Rattle.hub_handles.proofs.handles.Handles.add_listener.Goals as goal

pub returns-clause-ok : goal.returns-clause-ok
returns-clause-ok g c =
    let put = rw c.unwrap-replaced.ensures at c.insert.ensures.updates in
    let made = c.new-hearing.ensures in
    adds_listener c.args.self.now _ _ _ _ _ c.new-hearing.result c.in_ok-has_room.ensures.ok c.in_ok-listener.ensures.read
    (subst (λ (s : Subscription). Begins c.args.name.now (arc_value c.args.dir) s) (sym made.subscription_is) c.in_ok-subscription.ensures.ok)
    (made.listener_is ∙ c.in_ok-listener.ensures.ok) made.mode_is made.unheld refl refl put.1
    (λ other h. put.2 other h ∙ ap (lookup (nat_eq other)) c.reserve.ensures.entries)

pub invariant_of-self-2 : goal.invariant_of-self-2
invariant_of-self-2 g c =
    let old = c.args.self.now in
    let put = rw c.unwrap-replaced.ensures at c.insert.ensures.updates in
    record {
      subscribed = λ id above. old.subscribed id (omega arith);
      listening = λ id above.
          put.2 id (ne_eqb (old.given + 1) id (λ e. absurd (omega arith))) ∙ ap (lookup (nat_eq id)) c.reserve.ensures.entries ∙ old.listening id (omega arith);
    }

pub unreachable-requires : goal.unreachable-requires
unreachable-requires g c =
    let old = c.args.self.now in
    let number = old.given + 1 in
    c.in_default.not-None ((rw c.unwrap-replaced.ensures at c.insert.ensures.old) ∙ ap (lookup (nat_eq number)) c.reserve.ensures.entries
    ∙ old.listening number (omega arith))

use Rattle.std.proofs.Common.{refl, ap, ◌∙◌, nat_eq}
use Rattle.std.specs.Map.{lookup}
use Rattle.hub_handles.proofs.Numbering.{adds_subscription}
use Rattle.hub_handles.proofs.handles.Handles.add_subscription.Goals as goal

pub returns-clause-ok : goal.returns-clause-ok
returns-clause-ok g c =
    let put = rw c.unwrap-replaced.ensures at c.insert.ensures.updates in
    adds_subscription c.args.self.now _ _ _ c.in_ok-subscription.subscription c.in_ok-has_room.ensures.ok c.in_ok-subscription.ensures.ok refl refl put.1
    (λ other h. put.2 other h ∙ ap (lookup (nat_eq other)) c.reserve.ensures.entries)

use Rattle.std.proofs.Common.{inl}
use Rattle.hub_handles.proofs.Looks.{takes_after_look}
use Rattle.hub_handles.proofs.subscription.Subscription.take.Goals as goal

pub returns-in-Ok : goal.returns-in-Ok
returns-in-Ok g c = inl (takes_after_look _ _ _ _ _ c.look.ensures.looked c.take_through.ensures)

use Rattle.hub_handles.proofs.Nexts.{waits_after}
use Rattle.hub_handles.proofs.subscription.Subscription.next.Goals as goal

pub returns : goal.returns
returns g c = waits_after _ _ _ _ c.await_more.ensures.looked c.take_waiting.ensures

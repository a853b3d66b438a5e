use Rattle.hub_server.proofs.Crewed.{one_worker_more}
use Rattle.hub_server.proofs.workers.Workers.start.Goals as goal

pub workers-preserved : goal.workers-preserved
workers-preserved g c = one_worker_more _ _ _ _ _ c.reserve.ensures.items c.push_reserved.ensures.items c.in_ok-place.ensures c.workers.invariant

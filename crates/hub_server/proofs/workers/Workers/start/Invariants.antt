use Rattle.hub_server.specs.Crews.{IsCrew}
use Rattle.hub_server.proofs.workers.Workers.start.Given as goal

-- as many places as turns, each with its thread
abbrev pub invariant-workers : goal.invariant-workers
invariant-workers g l = IsCrew l._worker l.places.items

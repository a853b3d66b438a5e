use Rattle.hub_fifodir.specs.Passes.{IsPublisherOf}
use Rattle.hub_threads.proofs.publish.Given as goal

abbrev pub invariant-loop : goal.invariant-loop
invariant-loop g l = IsPublisherOf l.web l.publisher

use Rattle.hub_fifodir.specs.Passes.{IsPublisherOf}
use Rattle.hub_core_tests.proofs.tests.busy.send_long.Given as goal

abbrev pub invariant-loop : goal.invariant-loop
invariant-loop g l = IsPublisherOf l.fifodir l.sender

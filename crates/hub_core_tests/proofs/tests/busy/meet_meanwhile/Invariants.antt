use Rattle.hub_fifodir.specs.Passes.{IsPublisherOf}
use Rattle.hub_core_tests.proofs.tests.busy.meet_meanwhile.Given as goal

abbrev pub invariant-loop : goal.invariant-loop
invariant-loop g l = IsPublisherOf l.fifodir l.one × IsPublisherOf l.fifodir l.other

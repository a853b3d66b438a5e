use Rattle.hub_fifodir.specs.Passes.{IsPublisherOf, IsTicketOf}
use Rattle.hub_bench.proofs.policies.pass_by.Given as goal

abbrev pub invariant-bursts : goal.invariant-bursts
invariant-bursts g l = IsPublisherOf l.fifodir l.publisher × IsTicketOf l.fifodir l.ticket

use Rattle.hub_fifodir.specs.Passes.{IsTicketOf}
use Rattle.hub_threads.proofs.listen.Given as goal

abbrev pub invariant-loop : goal.invariant-loop
invariant-loop g l = IsTicketOf l.web l.ticket

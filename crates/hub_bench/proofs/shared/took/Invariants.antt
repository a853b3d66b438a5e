use Rattle.hub_fifodir.specs.Passes.{IsTicketOf}
use Rattle.hub_bench.proofs.shared.took.Given as goal

abbrev pub invariant-takes : goal.invariant-takes
invariant-takes g l = IsTicketOf l.fifodir l.ticket

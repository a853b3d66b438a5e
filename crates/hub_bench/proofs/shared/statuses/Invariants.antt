use Rattle.hub_fifodir.specs.Passes.{IsTicketOf}
use Rattle.hub_bench.proofs.shared.statuses.Given as goal

abbrev pub invariant-loop-look : goal.invariant-loop-look
invariant-loop-look l = IsTicketOf l.fifodir l.ticket

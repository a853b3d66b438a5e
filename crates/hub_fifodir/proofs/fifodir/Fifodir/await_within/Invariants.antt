use Rattle.std.proofs.Common.{◌≤◌}
use Rattle.hub_fifodir.specs.Passes.{IsTicketOf, OnlyLooks, ticket_sight, ticket_view}
use Rattle.hub_fifodir.specs.Steps.{Grows}
use Rattle.hub_fifodir.proofs.fifodir.Fifodir.await_within.Given as goal

abbrev pub invariant-turns : goal.invariant-turns
invariant-turns g l = record {
  of : IsTicketOf l.self l.me;
  looks : OnlyLooks (ticket_view l.initial.me) (ticket_view l.me);
  seen : Grows (ticket_sight l.initial.me) (ticket_sight l.me);
  bounded : l.left ≤ l.initial.left;
}

abbrev pub decreases-turns : goal.decreases-turns
decreases-turns g l = l.left

use Rattle.hub_fifodir.specs.Steps.{view_at_rest, new_taker}
use Rattle.hub_fifodir.proofs.steps.rest_as_ticket.Given as goal

abbrev pub ghosts-give_back : goal.ghosts-give_back
ghosts-give_back a = record { view = view_at_rest a.seat.now.at.me.0 (new_taker a.held.locked a.seat.now.at.me.0.sight.seen) }

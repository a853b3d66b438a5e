use Rattle.hub_fifodir.specs.Steps.{view_at_rest, taker_after, taking_of}
use Rattle.hub_fifodir.proofs.steps.rest_moved.Given as goal

abbrev pub ghosts-give_back : goal.ghosts-give_back
ghosts-give_back a = record { view = view_at_rest a.seat.now.at.me.0 (taker_after a.seat.now.at.me.0.sight.seen (taking_of a.seat.now.at.me.0.role) a._taken) }

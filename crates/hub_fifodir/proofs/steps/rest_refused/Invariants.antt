use Rattle.hub_fifodir.specs.Steps.{view_at_rest}
use Rattle.hub_fifodir.proofs.steps.rest_refused.Given as goal

abbrev pub ghosts-give_back : goal.ghosts-give_back
ghosts-give_back a = record { view = view_at_rest a.seat.now.at.me.0 a.seat.now.at.me.0.role }

use Rattle.std.proofs.Common.{[]}
use Rattle.hub_fifodir.specs.Steps.{view_at_rest, writer}
use Rattle.hub_fifodir.proofs.steps.rest_as_publisher.Given as goal

abbrev pub ghosts-give_back : goal.ghosts-give_back
ghosts-give_back a = record { view = view_at_rest a.seat.now.at.me.0 (writer a.held.locked.given []) }

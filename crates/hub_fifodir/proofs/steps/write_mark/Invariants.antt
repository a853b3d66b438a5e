use Rattle.hub_fifodir.specs.Steps.{closing, writing_of}
use Rattle.hub_fifodir.proofs.steps.write_mark.Given as goal

abbrev pub ghosts-store_mark : goal.ghosts-store_mark
ghosts-store_mark a = record { view = closing a.seat.now.at.me.0 (writing_of a.seat.now.at.me.0.role) }

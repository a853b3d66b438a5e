use Rattle.hub_fifodir.specs.Steps.{view_with_letters, writing_of}
use Rattle.hub_fifodir.proofs.steps.write_message.Given as goal

abbrev pub ghosts-store_message : goal.ghosts-store_message
ghosts-store_message a = record { view = view_with_letters a.seat.now.at.me.0 (writing_of a.seat.now.at.me.0.role) a._message.now }

use Rattle.std.proofs.Common.{rules}
use Rattle.hub_fifodir.proofs.AllowedSteps.{asks_enter}
use Rattle.hub_fifodir.proofs.steps.new_seat.Goals as goal

pub load_new_seat-requires : goal.load_new_seat-requires
load_new_seat-requires c = (search rules, asks_enter _ _)

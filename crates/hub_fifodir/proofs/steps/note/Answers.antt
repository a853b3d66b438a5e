use Rattle.std.proofs.Common.{rules}
use Rattle.hub_fifodir.proofs.AllowedSteps.{asks_split}
use Rattle.hub_fifodir.proofs.steps.note.Goals as goal

pub split_seat-requires : goal.split_seat-requires
split_seat-requires c = (search rules, search rules, asks_split _ _ c.args.seat.now.at.me c.requires.idle)

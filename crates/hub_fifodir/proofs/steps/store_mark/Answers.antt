use Rattle.std.proofs.Common.{rules}
use Rattle.hub_fifodir.proofs.AllowedSteps.{asks_mark}
use Rattle.hub_fifodir.proofs.steps.store_mark.Goals as goal

pub store-requires : goal.store-requires
store-requires g c = (search rules, search rules, asks_mark _ _ _ c.args.seat.now.at.me c.args.word g.N.ViewAfter.view c.requires.writes)

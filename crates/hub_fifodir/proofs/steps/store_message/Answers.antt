use Rattle.std.proofs.Common.{rules}
use Rattle.hub_fifodir.proofs.AllowedSteps.{asks_message}
use Rattle.hub_fifodir.proofs.steps.store_message.Goals as goal

pub store-requires : goal.store-requires
store-requires g c = (search rules, search rules, asks_message _ _ _ c.args.seat.now.at.me c.args.word c.args._message.now g.N.ViewAfter.view c.requires.writes)

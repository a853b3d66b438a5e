use Rattle.hub_local.proofs.Worlds.{takes_some}
use Rattle.hub_local.proofs.local_desk.subscriptions.take_letters.Goals as goal

pub unreachable-requires : goal.unreachable-requires
unreachable-requires c = takes_some c.requires.current.world c.args.id _ _ c.requires.current.subscribed (c.in-Err.ensures.reply c.requires.current.world c.requires.current.represents)

use Rattle.hub_local.proofs.Posts.{given_back}
use Rattle.hub_local.proofs.local_desk.waits.give_back.Goals as goal

pub returns : goal.returns
returns c = λ model kept. given_back _ model _ _ c.loop-i.i c.loop-i-test.false (c.loop-i.invariant model kept)

use Rattle.std.proofs.Common.{length, arith}
use Rattle.hub_listen.proofs.Listed.{IsListed-none}
use Rattle.hub_listen.proofs.states.States.clear.Goals as goal

pub invariant_of-self : goal.invariant_of-self
invariant_of-self c =
    let room = c.self.invariant.room in
    let capacity = c.clear-2.ensures.capacity in
    IsListed-none _ (length c.self.inside.set) c.clear.ensures c.clear-2.ensures.items (omega arith)

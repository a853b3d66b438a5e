use Rattle.hub_listen.proofs.Listed.{IsListed-none}
use Rattle.hub_listen.proofs.states.States.new.Goals as goal

pub invariant_of-result : goal.invariant_of-result
invariant_of-result c =
    IsListed-none _ c.args.count c.in_ok-set.ensures c.in_ok-list.ensures.items c.in_ok-list.ensures.exact

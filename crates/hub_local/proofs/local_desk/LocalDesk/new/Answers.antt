use Rattle.std.proofs.Common.{rules}
use Rattle.hub_local.specs.Desks.{new_desk}
use Rattle.hub_local.proofs.local_desk.LocalDesk.new.Goals as goal

pub invariant_of-result : goal.invariant_of-result
invariant_of-result c = record { desk = new_desk; represents = search rules }

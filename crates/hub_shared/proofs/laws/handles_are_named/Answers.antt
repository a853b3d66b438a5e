use Rattle.hub_shared.proofs.Named.{stays_named}
use Rattle.hub_shared.proofs.laws.handles_are_named.Goals as goal

pub returns : goal.returns
returns c = stays_named

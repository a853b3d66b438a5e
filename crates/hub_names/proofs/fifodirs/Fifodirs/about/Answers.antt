use Rattle.std.proofs.Common.{rules}
use Rattle.hub_names.specs.Speaking.{Describes}
use Rattle.hub_names.proofs.KeptFifodirs.{asks_kept}
use Rattle.hub_names.proofs.fifodirs.Fifodirs.about.Goals as goal

pub returns-in-Ok : goal.returns-in-Ok
returns-in-Ok g c = asks_kept _ Describes _ _ _ c.in-Ok.joined.now c.in-Ok.joined.now _ c.in-Ok.ensures.found (search rules) c.about.ensures

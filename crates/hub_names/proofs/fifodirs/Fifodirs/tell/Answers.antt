use Rattle.std.proofs.Common.{rules}
use Rattle.hub_names.specs.Speaking.{Tells}
use Rattle.hub_names.proofs.KeptFifodirs.{asks_kept}
use Rattle.hub_names.proofs.fifodirs.Fifodirs.tell.Goals as goal

pub returns-in-Ok : goal.returns-in-Ok
returns-in-Ok g c = asks_kept _ (Tells c.args.state) _ _ _ c.in-Ok.joined.now c.tell.new.self _ c.in-Ok.ensures.found (search rules) c.tell.ensures

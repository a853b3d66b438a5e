use Rattle.std.proofs.Common.{rules}
use Rattle.hub_names.specs.Speaking.{AsksAsPublisher}
use Rattle.hub_names.specs.Says.{says_closed}
use Rattle.hub_names.proofs.KeptFifodirs.{asks_kept}
use Rattle.hub_names.proofs.fifodirs.Fifodirs.close.Goals as goal

pub returns-in-Ok : goal.returns-in-Ok
returns-in-Ok g c = asks_kept _ (AsksAsPublisher says_closed) _ _ _ c.in-Ok.joined.now c.close.new.self _ c.in-Ok.ensures.found (search rules) c.close.ensures

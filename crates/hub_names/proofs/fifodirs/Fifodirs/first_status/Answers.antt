use Rattle.std.proofs.Common.{rules}
use Rattle.hub_names.specs.Speaking.{AsksAsPublisher}
use Rattle.hub_names.specs.Says.{says_status}
use Rattle.hub_names.proofs.KeptFifodirs.{asks_kept}
use Rattle.hub_names.proofs.fifodirs.Fifodirs.first_status.Goals as goal

pub returns-in-Ok : goal.returns-in-Ok
returns-in-Ok g c = asks_kept _ (AsksAsPublisher says_status) _ _ _ c.in-Ok.joined.now c.first_status.new.self _ c.in-Ok.ensures.found (search rules) c.first_status.ensures

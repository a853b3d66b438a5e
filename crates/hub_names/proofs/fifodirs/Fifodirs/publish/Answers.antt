use Rattle.std.proofs.Common.{rules}
use Rattle.hub_names.specs.Speaking.{AsksAsPublisher}
use Rattle.hub_names.specs.Says.{says_published}
use Rattle.hub_names.proofs.KeptFifodirs.{asks_kept}
use Rattle.hub_names.proofs.fifodirs.Fifodirs.publish.Goals as goal

pub returns-in-Ok : goal.returns-in-Ok
returns-in-Ok g c = asks_kept _ (AsksAsPublisher (says_published c.args.letters.now)) _ _ _ c.in-Ok.joined.now c.publish.new.self _ c.in-Ok.ensures.found (search rules) c.publish.ensures

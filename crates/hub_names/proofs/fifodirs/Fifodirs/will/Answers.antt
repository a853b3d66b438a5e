use Rattle.std.proofs.Common.{rules}
use Rattle.hub_names.specs.Wills.{ReadiesForWill}
use Rattle.hub_names.proofs.KeptFifodirs.{asks_kept}
use Rattle.hub_names.proofs.fifodirs.Fifodirs.will.Goals as goal

pub returns-in-Ok-clause-asked : goal.returns-in-Ok-clause-asked
returns-in-Ok-clause-asked g c = asks_kept _ ReadiesForWill _ _ _ c.in-Ok.joined.now c.will.new.self _ c.in-Ok.ensures.found (search rules) c.will.ensures.readies

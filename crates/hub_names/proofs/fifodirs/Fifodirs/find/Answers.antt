use Rattle.std.proofs.Common.{rules}
use Rattle.hub_names.proofs.KeptFifodirs.{kept_copy}
use Rattle.hub_names.proofs.fifodirs.Fifodirs.find.Goals as goal

pub returns-clause-ok : goal.returns-clause-ok
returns-clause-ok g c = kept_copy _ _ c.in_ok-joined.field-0.now c.copy.result (search rules) c.copy.ensures.dir c.copy.ensures.notifies

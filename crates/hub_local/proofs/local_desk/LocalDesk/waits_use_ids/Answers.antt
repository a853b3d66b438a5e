use Rattle.hub_local.proofs.UsedIds as law
use Rattle.hub_local.proofs.local_desk.LocalDesk.waits_use_ids.Goals as goal

pub returns : goal.returns
returns c = law.waits_use_ids

use Rattle.hub_rights.proofs.Leaving as law
use Rattle.hub_rights.proofs.laws.looks_leave_records.Goals as goal

pub returns : goal.returns
returns c = law.looks_leave_records c.waits_use_ids.ensures

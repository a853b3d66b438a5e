use Rattle.hub_record.proofs.Marks.{mark_is_end, mark_stays}
use Rattle.hub_record.proofs.laws.marks_stay.Goals as goal

pub returns-clause-end : goal.returns-clause-end
returns-clause-end c = mark_is_end

pub returns-clause-stays : goal.returns-clause-stays
returns-clause-stays c = mark_stays

use Rattle.std.proofs.Common.{refl}
use Rattle.hub_letters.specs.Marks.{is_life, is_supervision, is_hope, is_began, is_gave_up}
use Rattle.hub_letters.specs.Flags.{up_by, settled_by}
use Rattle.hub_letters.proofs.Occurrences.{by_last}
use Rattle.hub_letters.proofs.flags.Flags.are_by_last_letters.Goals as goal

pub returns-clause-up : goal.returns-clause-up
returns-clause-up c = by_last is_life up_by _ _ refl

pub returns-clause-settled : goal.returns-clause-settled
returns-clause-settled c = by_last is_life settled_by _ _ refl

pub returns-clause-supervised : goal.returns-clause-supervised
returns-clause-supervised c = by_last is_supervision is_began _ _ refl

pub returns-clause-failed : goal.returns-clause-failed
returns-clause-failed c = by_last is_hope is_gave_up _ _ refl

use Rattle.std.proofs.Common.{refl}
use Rattle.hub_letters.specs.Marks.{is_life}
use Rattle.hub_letters.specs.Flags.{up_by}
use Rattle.hub_letters.proofs.Occurrences.{is_up_and_settled, is_down_and_settled, by_last, hopeless_by_last, not_true}
use Rattle.hub_letters.proofs.want.Want.are_by_last_letters.Goals as goal

pub returns-clause-up : goal.returns-clause-up
returns-clause-up c = λ word notifies fell. by_last is_life up_by _ _ refl word

pub returns-clause-ready : goal.returns-clause-ready
returns-clause-ready c = λ word fell. by_last is_life is_up_and_settled _ _ refl word

pub returns-clause-ready_by_up : goal.returns-clause-ready_by_up
returns-clause-ready_by_up c = λ word fell. by_last is_life up_by _ _ refl word

pub returns-clause-down : goal.returns-clause-down
returns-clause-down c = λ word notifies fell. not_true _ _ (by_last is_life up_by _ _ refl word)

pub returns-clause-finished : goal.returns-clause-finished
returns-clause-finished c = λ word notifies fell. by_last is_life is_down_and_settled _ _ refl word

pub returns-clause-hopeless : goal.returns-clause-hopeless
returns-clause-hopeless c = λ word want. hopeless_by_last want word

use Rattle.std.proofs.Common.{refl}
use Rattle.hub_local.proofs.Asking.{answers_from, same_parts, represents_next}
use Rattle.hub_local.proofs.AskingSubscriptions.{cancel_unheld, cancel_done}
use Rattle.hub_local.proofs.local_desk.LocalDesk.cancel.Goals as goal

pub returns-in_default : goal.returns-in_default
returns-in_default c =
    answers_from c.self.view_is (cancel_unheld _ _ c.args.id c.in_default.ensures.value (same_parts _ _ refl c.in_default.ensures.unchanged refl refl))

pub returns : goal.returns
returns c =
    answers_from c.self.view_is (cancel_done _ _ c.args.id c.in-Some.holding c.in-Some.ensures.value c.shift_remove.ensures.entries c.release.ensures refl refl)

pub invariant_of-self-2 : goal.invariant_of-self-2
invariant_of-self-2 c = represents_next _ c.args.self.now _ _ _ _ _ _ c.self.view_is (returns c) c.self.invariant

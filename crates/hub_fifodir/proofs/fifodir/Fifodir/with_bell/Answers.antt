use Rattle.std.proofs.Common.{◌≡◌, List, [], ◌∷◌, ◌++◌, Option, Some, subst, sym, ap, ◌∙◌}
use Rattle.atomic_table.specs.Table.{opening}
use Rattle.hub_fifodir.specs.declared.locked.Locked.{Locked}
use Rattle.hub_fifodir.specs.declared.views.Rules.{Rules}
use Rattle.hub_fifodir.specs.Rule.{RuleHolds, visitor}
use Rattle.hub_fifodir.proofs.Opening.{opens}
use Rattle.hub_fifodir.proofs.fifodir.Fifodir.with_bell.Goals as goal

one_slot : (none slots : List (Option Locked)) (b : Locked) → none ≡ [] → slots ≡ none ++ Some b ∷ [] → slots ≡ Some b ∷ []
one_slot none slots b e is = is ∙ ap (λ (l : List (Option Locked)). l ++ Some b ∷ []) e

pub new-requires-2 : goal.new-requires-2
new-requires-2 c = let rules : Rules = record { kind = c.args.kind; limits = c.args.limits } in let b = c.in_ok-new.field-0 in let e = c.in_ok-new.ensures in
    subst (λ (l : List (Option Locked)). RuleHolds rules (opening (0 ∷ 0 ∷ []) l (visitor rules [] 0)))
    (sym (one_slot c.in_ok-slots.slots.items c.push_reserved.new.self.items b c.in_ok-slots.ensures.items c.push_reserved.ensures.items)) (opens c.args.kind c.args.limits b e.0 e.1 e.2)

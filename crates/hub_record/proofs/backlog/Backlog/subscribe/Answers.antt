use Rattle.std.proofs.Common.{◌+◌, [], ◌∷◌, ◌++◌, ◌<◌, length, refl, sym, ap, subst, ◌∙◌, arith}
use Rattle.hub_record.specs.declared.limits.TheConstants.{MOST_PASSES}
use Rattle.hub_record.specs.Backlog.{Held}
use Rattle.hub_record.proofs.Keeps.{new_id_above, kept_active}
use Rattle.hub_record.proofs.Moves.{was_at}
use Rattle.hub_record.proofs.backlog.Backlog.subscribe.Goals as goal

pub push-requires : goal.push-requires
push-requires c = new_id_above _ _ _ _ _ _ _ c.self.invariant refl

pub invariant_of-self-2 : goal.invariant_of-self-2
invariant_of-self-2 c =
    let size = c.len-last.ensures.len in
    let end = c.end-end.ensures.end ∙ ap (λ (h : Held). h.end) (sym c.self.view_is) in
    kept_active _ _ _ _ c.len-last.result _ _ _ _ c.self.invariant (omega arith) (subst (λ (h : Held). length h.cursors < MOST_PASSES) (sym c.self.view_is) c.requires.few)
    (c.in-Ok.ensures.ok ∙ ap (λ n. c.self.inside.cursors ++ (c.self.inside.given + 1, n) ∷ []) end) c.one_more.ensures.counts

pub returns-clause-begun : goal.returns-clause-begun
returns-clause-begun c =
    let end = c.end-end.ensures.end ∙ ap (λ (h : Held). h.end) (sym c.self.view_is) in
    was_at _ _ _ c.self.view_is (c.in-Ok.ensures.ok ∙ ap (λ n. c.self.inside.cursors ++ (c.self.inside.given + 1, n) ∷ []) end)

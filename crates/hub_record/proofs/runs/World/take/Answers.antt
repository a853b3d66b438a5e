use Rattle.std.proofs.Common.{◌≡◌, length, min, refl, ap, ◌∙◌, subst}
use Rattle.std.specs.Option.{unwrap_or}
use Rattle.hub_record.specs.World.{count_to_take}
use Rattle.hub_record.specs.declared.runs.Call.TheVariants.{Take}
use Rattle.hub_record.specs.declared.runs.Said.TheVariants.{Took}
use Rattle.hub_record.specs.Runs.{with_more_events, lists_of}
use Rattle.hub_record.specs.Kept.{Represents}
use Rattle.hub_record.proofs.Gathered.{gathered_at_take, rewritten, take_at, asks}
use Rattle.hub_record.proofs.runs.World.take.Goals as goal

pub returns-clause-after : goal.returns-clause-after
returns-clause-after c = λ w s.
    let e = c.unwrap_or-waiting.ensures ∙ ap (λ o. unwrap_or o 0) (c.waiting.ensures w s) in
    let l : length c.deref_mut.result.now ≡ min c.unwrap_or-waiting.result c.args.max = c.deref_mut.ensures.len ∙ c.in_ok-out.ensures.len ∙ c.min.ensures in
    subst (λ z. Represents c.take_into-reply.new.self z) (take_at w (Take c.args.id c.args.max) (Took c.take_into-reply.result) _ _ (length c.deref_mut.result.now) refl (λ k is. ap (count_to_take w k) l ∙ asks w _ _ _ e k is)) (c.take_into-reply.ensures.after w s)

pub returns-clause-gathered : goal.returns-clause-gathered
returns-clause-gathered c = λ w s h.
    let e = c.unwrap_or-waiting.ensures ∙ ap (λ o. unwrap_or o 0) (c.waiting.ensures w s) in
    let l : length c.deref_mut.result.now ≡ min c.unwrap_or-waiting.result c.args.max = c.deref_mut.ensures.len ∙ c.in_ok-out.ensures.len ∙ c.min.ensures in
    gathered_at_take w (Take c.args.id c.args.max) (Took c.take_into-reply.result) _ _ _ _ _ _ _ refl e l (c.take_into-reply.ensures.filled w s) h
    (c.in_ok-append.ensures ∙ ap (λ z. with_more_events c.args.id z (lists_of c.args.self.now.gathered.entries)) (c.deref.ensures.value ∙ rewritten _ _ _ (c.take_into-reply.auto.out ∙ c.deref_mut.ensures.len)))

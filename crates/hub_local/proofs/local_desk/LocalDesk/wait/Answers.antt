use Rattle.std.proofs.Common.{List, refl, sym, ap, subst, ◌∙◌}
use Rattle.hub_local.specs.Representing.{AreKept}
use Rattle.hub_local.specs.Waits.{without_posts, verdict_shown}
use Rattle.hub_local.specs.declared.local_desk.waits.LocalPost.{LocalPost}
use Rattle.hub_local.proofs.Asking.{answers_from, answers_here, represents_next}
use Rattle.hub_local.proofs.AskingServices.{waits_for, wait_refused, wait_lacks, wait_done, wait_stopped}
use Rattle.hub_local.proofs.local_desk.LocalDesk.wait.Goals as goal

pub returns-in-Some : goal.returns-in-Some
returns-in-Some c =
    answers_here c.self.view_is (waits_for _ _ c.args.span c.args.want _ _ _ c.items-names.ensures (wait_refused _ _ c.args.span c.args.want c.items-names.result.now c.in-Some.refusal refl (sym c.in-Some.ensures)))

pub returns-in_default-with_capacity : goal.returns-in_default-with_capacity
returns-in_default-with_capacity c =
    answers_here c.self.view_is (waits_for _ _ c.args.span c.args.want _ _ _ c.items-names.ensures (wait_lacks _ _ c.args.span c.args.want c.items-names.result.now (sym c.in_default.ensures) refl))

pub returns-in_default-with_capacity-2 : goal.returns-in_default-with_capacity-2
returns-in_default-with_capacity-2 c =
    answers_here c.self.view_is (waits_for _ _ c.args.span c.args.want _ _ _ c.items-names.ensures (wait_lacks _ _ c.args.span c.args.want c.items-names.result.now (sym c.in_default.ensures) refl))

pub returns-in-Ok-opened : goal.returns-in-Ok-opened
returns-in-Ok-opened c =
    answers_from c.self.view_is (waits_for _ _ c.args.span c.args.want _ _ _ c.items-names.ensures
    (wait_done _ _ c.args.span c.args.want c.items-names.result.now (sym c.in_default.ensures) c.open_all-opened.new.fifodirs.entries c.open_all-opened.new.posts.items refl refl refl
    (λ fs k. subst (λ (ps : List LocalPost). AreKept c.give_back.new.fifodirs.entries (without_posts fs c.items-names.result.now ps)) c.deref.ensures.value (c.give_back.ensures fs k))
    (λ fs k. c.in-Ok-opened.ensures.opens fs k) c.verdict_shown.result
    (c.verdict_shown.ensures ∙ ap (verdict_shown c.args.span) c.deref-in-Ok-opened.ensures.value)))

pub returns : goal.returns
returns c =
    answers_from c.self.view_is (waits_for _ _ c.args.span c.args.want _ _ _ c.items-names.ensures
    (wait_stopped _ _ c.args.span c.args.want c.items-names.result.now (sym c.in_default.ensures) c.open_all-opened.new.fifodirs.entries c.open_all-opened.new.posts.items refl refl refl
    (λ fs k. subst (λ (ps : List LocalPost). AreKept c.give_back.new.fifodirs.entries (without_posts fs c.items-names.result.now ps)) c.deref.ensures.value (c.give_back.ensures fs k))
    c.in-Err.refusal (λ fs k. c.in-Err.ensures.opens fs k)))

pub invariant_of-self : goal.invariant_of-self
invariant_of-self c = represents_next _ c.args.self.now _ _ _ _ _ _ c.self.view_is (returns-in-Ok-opened c) c.self.invariant

pub invariant_of-self-2 : goal.invariant_of-self-2
invariant_of-self-2 c = represents_next _ c.args.self.now _ _ _ _ _ _ c.self.view_is (returns c) c.self.invariant

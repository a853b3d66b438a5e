use Rattle.std.proofs.Common.{◌≡◌, ◌++◌, ◌∷◌, [], ℕ, ◌+◌, List, refl, ap, ◌∙◌, nat_eq}
use Rattle.std.specs.Map.{lookup}
use Rattle.indexmap.proofs.CallerLemmas.{insert_entry-new}
use Rattle.hub_requests.specs.Wills.{wills_in}
use Rattle.hub_local.specs.Representing.{Local}
use Rattle.hub_local.specs.declared.local_desk.Holding.{Holding}
use Rattle.hub_local.proofs.Asking.{answers_from, represents_next}
use Rattle.hub_local.proofs.AskingHolds.{hold_done, hold_refused, fresh_number, named_there, unrefused_at}
use Rattle.hub_local.proofs.local_desk.LocalDesk.hold.Goals as goal
use Rattle.hub_local.proofs.local_desk.LocalDesk.hold.Goals.{in-Some-1, in-None-1}

pub begin-requires : goal.begin-requires
begin-requires c =
    let may = unrefused_at c.args.name.now c.self.view_is c.requires.unrefused in
    record { there = named_there _ c.args.name.now c.self.invariant.desk c.self.invariant.represents (may c.self.invariant.desk c.self.invariant.represents) }

pub returns-in-Ok : goal.returns-in-Ok
returns-in-Ok c =
    let h : Holding = record { name = c.in-Ok.name; id = c.in-Ok.id; hearing = c.args.hearing } in
    let n = c.self.inside.given + 1 in
    answers_from c.self.view_is (hold_done _ _ c.args.name.now c.args.hearing (unrefused_at c.args.name.now c.self.view_is c.requires.unrefused)
    c.requires.goes_on (c.in-Ok.name, c.in-Ok.id) c.in-Ok.ensures.begins
    (c.give.ensures
    ∙ insert_entry-new nat_eq c.begin.new.holdings n h (ap (lookup (nat_eq n)) c.in-Ok.ensures.same ∙ fresh_number _ c.self.invariant.desk c.self.invariant.represents)
    ∙ ap (λ (es : List (ℕ × Holding)). es ++ (n, h) ∷ []) c.in-Ok.ensures.same
    ∙ ap (λ (k : List ℕ). c.self.inside.holdings.entries ++ (n, record { name = k; id = c.in-Ok.id; hearing = c.args.hearing }) ∷ []) c.in-Ok.ensures.name)
    refl refl)

pub invariant_of-self : goal.invariant_of-self
invariant_of-self c = represents_next _ c.args.self.now _ _ _ _ _ _ c.self.view_is (returns-in-Ok c) c.self.invariant

pub invariant_of-self-in-Err : goal.invariant_of-self-in-Err
invariant_of-self-in-Err c = represents_next _ c.args.self.now _ _ _ _ _ _ c.self.view_is
    (answers_from c.self.view_is (hold_refused _ _ c.args.name.now c.args.hearing (unrefused_at c.args.name.now c.self.view_is c.requires.unrefused)
    c.in-Err.refusal c.in-Err.ensures.begins c.in-Err.ensures.same refl refl _ refl)) c.self.invariant

pub invariant_of-self-in-Err-2 : goal.invariant_of-self-in-Err-2
invariant_of-self-in-Err-2 c = represents_next _ c.args.self.now _ _ _ _ _ _ c.self.view_is
    (answers_from c.self.view_is (hold_refused _ _ c.args.name.now c.args.hearing (unrefused_at c.args.name.now c.self.view_is c.requires.unrefused)
    c.in-Err.refusal c.in-Err.ensures.begins c.in-Err.ensures.same refl refl _ refl)) c.self.invariant

pub returns-in-Err : goal.returns-in-Err
returns-in-Err c =
    let after : Local = record { fifodirs = c.begin.new.fifodirs.entries; holdings = c.begin.new.holdings.entries; given = c.self.inside.given; wills = wills_in c.self.inside.wills } in
    let ends = λ (now : Local) (is : now ≡ after).
    hold_refused _ after c.args.name.now c.args.hearing (unrefused_at c.args.name.now c.self.view_is c.requires.unrefused)
    c.in-Err.refusal c.in-Err.ensures.begins c.in-Err.ensures.same refl refl now is in
    answers_from c.self.view_is (elim c.match-hearing.branch [ in-Some-1 w ↦ ends _ w.self-is | in-None-1 w ↦ ends _ w.self-is ])

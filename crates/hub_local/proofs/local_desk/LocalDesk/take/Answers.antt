use Rattle.std.proofs.Common.{refl, sym, ◌∙◌}
use Rattle.hub_local.proofs.Asking.{answers_from, represents_next}
use Rattle.hub_local.proofs.AskingSubscriptions.{take_done, take_lacks, held_somewhere, has_subscription}
use Rattle.hub_local.proofs.local_desk.LocalDesk.take.Goals as goal
use Rattle.hub_local.proofs.local_desk.LocalDesk.take.Goals.{in-Ok, in-Err}

pub unreachable-requires : goal.unreachable-requires
unreachable-requires c = held_somewhere _ c.self.invariant.desk c.self.invariant.represents c.args.id c.in-Some.holding.now c.in-Some.ensures.value c.in_default-get_mut.ensures.value

pub take_waiting-requires-clause-current : goal.take_waiting-requires-clause-current
take_waiting-requires-clause-current c =
    has_subscription _ c.self.invariant.desk c.self.invariant.represents c.args.id c.in-Some.holding.now c.in-Some.ensures.value c.in-Some-get_mut.fifodir.now c.in-Some-get_mut.ensures.value

pub returns : goal.returns
returns c =
    let has = has_subscription _ c.self.invariant.desk c.self.invariant.represents c.args.id c.in-Some.holding.now c.in-Some.ensures.value c.in-Some-get_mut.fifodir.now c.in-Some-get_mut.ensures.value in
    answers_from c.self.view_is (elim c.match-take_waiting.branch [
      | in-Ok w ↦ take_done _ _ c.args.id c.args.max c.in-Some.holding.now c.in-Some.ensures.value (sym c.is_some.ensures ∙ c.if-is_some.false) c.in-Some-get_mut.fifodir.now c.take_waiting.new.kept
          (record { was = sym c.in-Some-get_mut.ensures.value; fifodirs = (c.get_mut.follows.holds _).0; holdings = refl; given = refl; wills = refl }) _ _ has (λ v st. w.result-is ∙ w.in-Ok.ensures.reply v st) w.in-Ok.ensures.after refl
      | in-Err w ↦ take_lacks _ _ c.args.id c.args.max c.in-Some.holding.now c.in-Some.ensures.value (sym c.is_some.ensures ∙ c.if-is_some.false) c.in-Some-get_mut.fifodir.now c.take_waiting.new.kept
          (record { was = sym c.in-Some-get_mut.ensures.value; fifodirs = (c.get_mut.follows.holds _).0; holdings = refl; given = refl; wills = refl }) _ w.in-Err.ensures.err w.result-is
    ])

pub invariant_of-self : goal.invariant_of-self
invariant_of-self c = represents_next _ c.args.self.now _ _ _ _ _ _ c.self.view_is (returns c) c.self.invariant

use Rattle.std.proofs.Common.{◌+◌, ℕ, List, Bool, take, sym, ◌∙◌, subst, arith}
use Rattle.std.proofs.lemmas.Grind.{common_steps}
use Rattle.std.proofs.lemmas.List.{take_all}
use Rattle.hub_record.specs.declared.Kind.TheVariants.{Plain, Service}
use Rattle.hub_names.specs.declared.hub.Made.{Made}
use Rattle.hub_shared.specs.Waits.{AreFound, AreSeen}
use Rattle.hub_names.proofs.KeptFifodirs.{KeepsAll-trans}
use Rattle.hub_shared.proofs.WaitedNames.{seen_plain, seen_service, of_kind_found, found_next}
use Rattle.hub_shared.proofs.shared_desk.waits.find_each.Goals as goal
use Rattle.hub_shared.proofs.shared_desk.waits.find_each.Goals.{in-Plain, in-Service}

pub loop-name-preserved : goal.loop-name-preserved
loop-name-preserved g c =
    let new = c.find.new.self in
    let made = c.in_ok-made.ensures in
    let names = take (c.loop-name.name-index + 1) c.args.names.now in
    let of_kind = of_kind_found new c.name-item.result c.in_ok-made.made c.deref.result.now in
    record {
      kept = KeepsAll-trans c.args.hub.now c.args.fifodirs.now c.loop-name.fifodirs new c.loop-name.invariant.kept made.kept;
      seen = elim c.match-kind.branch [
        | in-Plain w ↦ subst (λ (b : Bool). AreSeen new names b) (sym w.plain-is)
            (seen_plain c.args.hub.now c.loop-name.fifodirs new made.kept c.args.names.now c.loop-name.name-index c.name-item.result c.loop-name-test.true c.name-item.is
            c.loop-name.plain c.loop-name.invariant.seen (of_kind Plain made.ok c.deref.ensures (sym w.in-Plain.is ∙ c.kind.ensures)))
        | in-Service w ↦ subst (λ (b : Bool). AreSeen new names b) (sym w.plain-is)
            (seen_service c.args.hub.now c.loop-name.fifodirs new made.kept c.args.names.now c.loop-name.name-index c.name-item.result c.loop-name-test.true c.name-item.is
            c.loop-name.plain c.loop-name.invariant.seen (of_kind Service made.ok c.deref.ensures (sym w.in-Service.is ∙ c.kind.ensures)))
      ];
      found = subst (λ (ms : List Made). AreFound new names ms) (sym {A = List Made} c.push_reserved.ensures.items)
          (found_next c.args.hub.now c.loop-name.fifodirs new made.kept c.args.names.now c.loop-name.name-index c.name-item.result c.loop-name-test.true c.name-item.is
          c.loop-name.found.items c.in_ok-made.made c.loop-name.invariant.found made.ok);
      count = grind (arith, common_steps);
      room = grind (arith, common_steps);
    }

pub returns-clause-seen : goal.returns-clause-seen
returns-clause-seen g c =
    subst (λ (names : List (List ℕ)). AreSeen c.loop-name.fifodirs names c.loop-name.plain) (take_all c.loop-name.name-index c.args.names.now c.loop-name-test.false) c.loop-name.invariant.seen

pub returns-clause-found : goal.returns-clause-found
returns-clause-found g c =
    subst (λ (names : List (List ℕ)). AreFound c.loop-name.fifodirs names c.loop-name.found.items) (take_all c.loop-name.name-index c.args.names.now c.loop-name-test.false) c.loop-name.invariant.found

pub returns-in_err-made-clause-kept : goal.returns-in_err-made-clause-kept
returns-in_err-made-clause-kept g c =
    KeepsAll-trans c.args.hub.now c.args.fifodirs.now c.loop-name.fifodirs c.find.new.self c.loop-name.invariant.kept c.find.ensures.kept

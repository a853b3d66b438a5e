use Rattle.std.proofs.Common.{false, refl, ap}
use Rattle.hub_local.proofs.Asking.{same_parts, replaces, no_name, represents_next}
use Rattle.hub_local.proofs.AskingFifodirs.{close_done, close_refused}
use Rattle.hub_local.proofs.local_desk.LocalDesk.close.Goals as goal
use Rattle.hub_local.proofs.local_desk.LocalDesk.close.Goals.{in-Ok, in-Err}

pub returns-in_default : goal.returns-in_default
returns-in_default c = no_name _ c.args.self.now _ false c.args.name.now _ _ c.self.view_is (same_parts _ _ (ap (λ m. m.entries) c.get_mut.follows.holds-at-none) refl refl refl) c.in_default.ensures.value

pub returns : goal.returns
returns c =
    let put = replaces _ c.args.self.now _ c.args.name.now c.in-Some.fifodir.now c.close.new.self c.self.view_is c.in-Some.ensures.value (c.get_mut.follows.holds _).0 refl refl refl in
    elim c.match-close.branch [
      | in-Ok w ↦ close_done c.args.self.now _ c.args.name.now _ _ put _ w.in-Ok.ensures.reply c.close.ensures.after w.result-is
      | in-Err w ↦ close_refused c.args.self.now _ c.args.name.now _ _ put _ _ w.in-Err.ensures.reply w.in-Err.ensures.err w.result-is
    ]

pub invariant_of-self-2 : goal.invariant_of-self-2
invariant_of-self-2 c = represents_next _ c.args.self.now _ _ _ _ _ _ c.self.view_is (returns c) c.self.invariant

use Rattle.std.proofs.Common.{refl}
use Rattle.hub_local.specs.Ends.{desk_after_end}
use Rattle.hub_local.proofs.AskingSubscriptions.{session_ended, session_ends}
use Rattle.hub_local.proofs.local_desk.LocalDeskDesk.end.Goals as goal

pub invariant_of-self : goal.invariant_of-self
invariant_of-self g c = record {
  desk = desk_after_end c.self.invariant.desk;
  represents = session_ended _ _ c.clear.ensures.empty refl c.clear-2.ensures (λ fs kept. c.carry_out.ensures _ (c.release_all.ensures fs kept)) c.self.invariant.desk c.self.invariant.represents;
}

pub returns : goal.returns
returns g c = session_ends _ c.args.self.now _ c.self.view_is c.clear.ensures.empty refl c.clear-2.ensures (λ fs kept. c.carry_out.ensures _ (c.release_all.ensures fs kept))

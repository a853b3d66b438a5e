use Rattle.std.proofs.Common.{subst}
use Rattle.hub_names.specs.declared.hub.Hub.{Hub}
use Rattle.hub_shared.specs.Desks.{IsNewDesk}
use Rattle.hub_shared.proofs.NewDesks.{still_new}
use Rattle.hub_serving.proofs.desks.HubDesks.open.Goals as goal

pub returns-in-Short : goal.returns-in-Short
returns-in-Short g c = subst (λ (hub : Hub). IsNewDesk hub c.args.self.now.pause c.watch.new.self) c.in_ok-hub.ensures
    (still_new _ _ _ c.in_ok-desk.desk c.watch.new.self c.in_ok-desk.ensures c.watch.ensures)

pub returns-in-Long : goal.returns-in-Long
returns-in-Long g c = subst (λ (hub : Hub). IsNewDesk hub c.args.self.now.pause c.wake_late.new.self) c.in_ok-hub.ensures
    (still_new _ _ _ c.watch.new.self c.wake_late.new.self (still_new _ _ _ c.in_ok-desk.desk c.watch.new.self c.in_ok-desk.ensures c.watch.ensures) c.wake_late.ensures)

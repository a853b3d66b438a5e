use Rattle.std.proofs.Common.{refl, subst}
use Rattle.std.specs.Arc.{arc_value}
use Rattle.hub_names.specs.declared.hub.Hub.{Hub}
use Rattle.hub_names.specs.Fifodirs.{AsksByName}
use Rattle.hub_names.specs.Says.{says_status}
use Rattle.hub_shared.proofs.Handling.{asks_as_before}
use Rattle.hub_shared.proofs.shared_desk.SharedDesk.status.Goals as goal

pub returns-in-None : goal.returns-in-None
returns-in-None g c =
    let handles = c.args.self.now.handles in
    let fifodirs = c.args.self.now.fifodirs in
    let new = c.first_status.new.self in
    let said = subst (λ (hub : Hub). AsksByName hub says_status c.status.new.self c.args.name.now c.first_status.result new) c.deref.ensures c.first_status.ensures in
    let asked = asks_as_before (arc_value c.args.self.now.hub) says_status fifodirs c.status.new.self new c.args.name.now c.first_status.result c.in-None.ensures.none.1 said in
    record { hub = refl; pause = refl; client = refl; lost = refl; answers = (asked, refl {a = handles}); wills = refl }

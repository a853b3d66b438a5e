use Rattle.std.proofs.Common.{refl, subst}
use Rattle.hub_names.specs.declared.hub.Hub.{Hub}
use Rattle.hub_names.specs.Wills.{WillsByName}
use Rattle.hub_shared.proofs.shared_desk.SharedDesk.will.Goals as goal

pub returns : goal.returns
returns g c =
    let handles = c.args.self.now.handles in
    let asked = subst (λ (hub : Hub). WillsByName hub c.args.self.now.fifodirs c.args.name.now c.will.result c.will.new.self) c.deref.ensures c.will.ensures.asked in
    record { hub = refl; pause = refl; client = refl; lost = refl; answers = (asked, refl {a = handles}); wills = c.will.ensures.given }

use Rattle.std.proofs.Common.{refl, subst}
use Rattle.hub_record.specs.declared.Kind.TheVariants.{Service}
use Rattle.hub_names.specs.declared.hub.Hub.{Hub}
use Rattle.hub_names.specs.Changes.{MakesName}
use Rattle.hub_shared.proofs.shared_desk.SharedDesk.make_service.Goals as goal

pub returns : goal.returns
returns g c =
    let limits = c.limits-limits in
    let handles = c.args.self.now.handles in
    let made = subst (λ (hub : Hub). MakesName hub Service limits.result c.args.notifies c.args.self.now.fifodirs c.args.name.now c.make.result c.make.new.self) c.deref.ensures c.make.ensures in
    record { hub = refl; pause = refl; client = refl; lost = refl; answers = ((limits.result, limits.ensures, made), refl {a = handles}); wills = refl }

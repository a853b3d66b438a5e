use Rattle.std.proofs.Common.{refl, subst}
use Rattle.std.specs.Arc.{arc_value}
use Rattle.hub_names.specs.declared.hub.Hub.{Hub}
use Rattle.hub_names.specs.Fifodirs.{KeepsAll}
use Rattle.hub_shared.proofs.Handling.{listens_to}
use Rattle.hub_shared.proofs.shared_desk.SharedDesk.listen.Goals as goal

pub returns-in-Ok : goal.returns-in-Ok
returns-in-Ok g c =
    let kept = subst (λ (hub : Hub). KeepsAll hub c.args.self.now.fifodirs c.find.new.self) c.deref.ensures c.in-Ok.ensures.kept in
    let given = listens_to (arc_value c.args.self.now.hub) c.find.new.self c.args.name.now c.in-Ok.found c.args.mode c.args.pattern.now c.args.self.now.handles c.listen.new.self c.listen.result c.in-Ok.ensures.ok c.listen.ensures in
    record { hub = refl; pause = refl; client = refl; lost = refl; answers = (kept, given); wills = refl }

use Rattle.std.proofs.Common.{ℕ, List, inl, refl, subst}
use Rattle.hub_names.specs.declared.hub.Hub.{Hub}
use Rattle.hub_names.specs.Fifodirs.{KeepsAll}
use Rattle.hub_shared.specs.Waits.{WaitsFor}
use Rattle.hub_shared.proofs.shared_desk.SharedDesk.wait.Goals as goal

pub returns-in-Ok : goal.returns-in-Ok
returns-in-Ok g c =
    let handles = c.args.self.now.handles in
    let fifodirs = c.open.new.fifodirs in
    let opened = c.in-Ok.ensures in
    let kept = subst (λ (hub : Hub). KeepsAll hub c.args.self.now.fifodirs fifodirs) c.deref.ensures opened.kept in
    let waits : WaitsFor fifodirs c.args.span c.args.want c.items.result.now c.settle.result = record {
      services = opened.services;
      opened = c.in-Ok.posts.posts.items;
      posts = opened.opened;
      settled = c.settle.ensures;
    } in
    let settled = subst (λ (names : List (List ℕ)). WaitsFor fifodirs c.args.span c.args.want names c.settle.result) c.items.ensures waits in
    record { hub = refl; pause = refl; client = refl; lost = refl; answers = (kept, inl settled, refl {a = handles}); wills = refl }

use Rattle.std.proofs.Common.{◌≡◌, ℕ, List, true, ap, subst, ◌∙◌}
use Rattle.hub_listen.specs.Hit.{IsPattern}
use Rattle.hub_listen.specs.Listening.{new_listening}
use Rattle.hub_letters.specs.declared.mode.Mode.TheVariants.{Repeat}
use Rattle.hub_local.proofs.AskingHolds.{listen_held}
use Rattle.hub_local.proofs.local_desk.LocalDesk.listen.Goals as goal

pub returns-in-Ok : goal.returns-in-Ok
returns-in-Ok c =
    let new : c.in-Ok.listener ≡ new_listening c.args.pattern.now Repeat = c.in-Ok.ensures.ok ∙ ap (λ (p : List ℕ). new_listening p Repeat) c.items.ensures in record {
      read = true;
      is_read = λ yes real. subst IsPattern c.items.ensures c.in-Ok.ensures.read;
      answers = listen_held c.args.self.now _ c.args.name.now c.args.pattern.now c.args.mode c.in-Ok.listener c.hold.result c.in_default.ensures new c.hold.ensures;
    }

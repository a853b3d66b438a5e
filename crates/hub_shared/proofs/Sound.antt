-- What the passes of a session have seen is sound.
use Rattle.std.proofs.Common.{subst}
use Rattle.hub_fifodir.specs.declared.views.Rules.{Rules}
use Rattle.hub_fifodir.specs.Rule.{IsSound}
use Rattle.hub_names.specs.declared.fifodirs.Fifodirs.{Fifodirs}
use Rattle.hub_handles.specs.declared.handles.Handles.{Handles}
use Rattle.hub_handles.specs.declared.subscription.Subscription.{Subscription}
use Rattle.hub_wait.specs.Posts.{seen_of}
use Rattle.hub_shared.specs.Sound.{ArePassesSound, IsSoundAt}
use Rattle.std.specs.Arc.{arc_value}
use Rattle.hub_fifodir.specs.Passes.{ticket_seen, seen_by}

held_sound : (s : Subscription) → IsSoundAt (arc_value s.dir) (ticket_seen s.ticket)
held_sound s = subst (λ (r : Rules). ∥ IsSound r (ticket_seen s.ticket) ∥₁) s.of.1 s.sound

pub passes_are_sound : (fs : Fifodirs) (hs : Handles) → ArePassesSound fs hs
passes_are_sound fs hs = record {
  subscriptions = λ id s at. held_sound s;
  listeners = λ id h at. held_sound h.subscription;
  publishers = λ name j p at kept. subst (λ (r : Rules). ∥ IsSound r (seen_by p) ∥₁) (j.of p kept).1 (j.sound p kept);
  posts = λ post. subst (λ (r : Rules). ∥ IsSound r (seen_of post) ∥₁) post.of.1 post.sound;
}

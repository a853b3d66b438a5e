use Rattle.std.proofs.Common.{◌≡◌, subst}
use Rattle.std.specs.Arc.{arc_value}
use Rattle.hub_fifodir.specs.Passes.{IsPublisherOf, HasSoundSight, publisher_view}
use Rattle.hub_names.proofs.joined.Joined.keep.Goals as goal

pub invariant_of-self : goal.invariant_of-self
invariant_of-self c = record {
  of = λ p is. let same : c.args.publisher ≡ p = cc in subst (λ q. IsPublisherOf (arc_value c.args.self.now.found.dir) q) same c.requires.of;
  sound = λ p is. let same : c.args.publisher ≡ p = cc in subst (λ q. ∥ HasSoundSight (publisher_view q) ∥₁) same c.requires.sound;
}

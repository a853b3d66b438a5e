use Rattle.std.proofs.Common.{inl, refl, sym, ap, ◌∙◌}
use Rattle.hub_fifodir.specs.Passes.{kind_of}
use Rattle.hub_names.proofs.joined.Joined.will.Goals as goal

pub returns-clause-readies : goal.returns-clause-readies
returns-clause-readies g c = inl (
  ap kind_of (sym c.deref.ensures) ∙ sym c.kind.ensures ∙ c.in-Service.is,
  inl (refl, record { speaker = c.in-Ok-speaker.publisher; found = c.keep.ensures.found ∙ c.in-Ok-speaker.ensures.found; speaks = c.in-Ok-speaker.ensures.ok; kept = c.keep.ensures.kept }),
)

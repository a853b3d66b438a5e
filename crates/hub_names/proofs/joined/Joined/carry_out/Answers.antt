use Rattle.std.proofs.Common.{◌≡◌, Option, Some, inl, refl, sym, ap, subst, ◌∙◌}
use Rattle.std.specs.Arc.{arc_value}
use Rattle.hub_fifodir.specs.Passes.{kind_of}
use Rattle.hub_fifodir.specs.declared.publisher.Publisher.{Publisher}
use Rattle.hub_names.specs.Speaking.{IsSpeaker}
use Rattle.hub_names.proofs.joined.Joined.carry_out.Goals as goal

pub returns : goal.returns
returns g c =
    let own = c.tell_as_last-told.ensures in
    let p = c.in-Some.publisher in
    let kept : Some p ≡ c.args.self.now.publisher = cc in
    inl (record {
      service = ap kind_of (sym c.deref.ensures) ∙ sym c.kind.ensures ∙ c.in-Service.is;
      before = p;
      after = c.tell_as_last-told.new.me;
      was = sym kept;
      spoken = record {
        found = c.keep.ensures.found;
        speaker = subst (λ (o : Option Publisher). IsSpeaker (arc_value c.args.self.now.found.dir) o p) kept refl;
        kept = c.keep.ensures.kept;
        same = own.remains.number;
        seen = own.remains.seen;
      };
      told = c.tell_as_last-told.result;
      said = own.said;
      lost_is = c.is_lost.ensures;
    })

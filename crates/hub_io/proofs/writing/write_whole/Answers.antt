use Rattle.std.proofs.Common.{◌≡◌, ◌+◌, ◌-◌, ◌<◌, ◌∙◌, ◌++◌, length, take, drop, subst, sym, ap, arith}
use Rattle.std.proofs.Math.Seq.{take-add}
use Rattle.std.specs.Io.KnownBytes.{Appends}
use Rattle.std.proofs.KnownBytes.{Appends-trans}
use Rattle.std.proofs.lemmas.List.{take_rest}
use Rattle.std.specs.declared.io.Error.{Error}
use Rattle.hub_io.proofs.Told.{Rises-trans, taken-Rises}
use Rattle.hub_io.proofs.writing.write_whole.Goals as goal

pub parts-preserved : goal.parts-preserved
parts-preserved g c = record {
  within = omega (arith, c.in-Ok.ensures.bound, c.parts.invariant.within);
  held =
      let bytes = c.args.bytes.now in
      let part : take c.in-Ok.n (take (length bytes - c.parts.written) (drop c.parts.written bytes)) ≡ take c.in-Ok.n (drop c.parts.written bytes) = ap (take c.in-Ok.n) (take_rest bytes c.parts.written) in
      let joined : take c.parts.written bytes ++ take c.in-Ok.n (take (length bytes - c.parts.written) (drop c.parts.written bytes)) ≡ take (c.parts.written + c.in-Ok.n) bytes =
      ap (λ l. take c.parts.written bytes ++ l) part ∙ sym (take-add c.parts.written c.in-Ok.n bytes) in
      subst (Appends _ _) joined (Appends-trans _ _ _ _ _ c.parts.invariant.held c.in-Ok.ensures.bytes);
  quiet =
      let some : 0 < c.in-Ok.n = omega arith in
      Rises-trans _ _ _ 0 c.parts.invariant.quiet (taken-Rises Error _ _ c.in-Ok.n some c.in-Ok.ensures.told);
}

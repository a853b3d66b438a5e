use Rattle.hub_fifodir.specs.Steps.{Grows}
use Rattle.hub_fifodir.specs.Passes.{OnlyLooks}
use Rattle.hub_fifodir.proofs.fifodir.Fifodir.meet.Given as goal

abbrev pub invariant-loop : goal.invariant-loop
invariant-loop g l = let A = g.A.Seated.view in let B = g.B.Seated.view in record {
  one : OnlyLooks (A l.initial.one) (A l.one);
  one_seen : Grows (A l.initial.one).sight (A l.one).sight;
  other : OnlyLooks (B l.initial.other) (B l.other);
  other_seen : Grows (B l.initial.other).sight (B l.other).sight;
}

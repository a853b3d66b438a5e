use Rattle.std.proofs.Common.{◌≡◌, ℕ, ◌+◌, ◌≤◌, List, ◌++◌, length}
use Rattle.hub_io.specs.Lines.{lines_of}
use Rattle.hub_serving.specs.Setup.{AreCarriedOut}
use Rattle.hub_serving.proofs.setup.ask_lines.Given as goal

-- some lines were carried out, and the others are those of the bytes that are left
abbrev pub invariant-lines : goal.invariant-lines
invariant-lines g l = (done : List (List ℕ)) × record {
  carried : AreCarriedOut g.D.Desk.asks l.fn.desk done l.desk;
  all : lines_of l.text ≡ done ++ lines_of l.left;
  number : l.number ≡ length done + 1;
  few : l.number + length l.left ≤ length l.text + 1;
}

abbrev pub decreases-lines : goal.decreases-lines
decreases-lines g l = length l.left

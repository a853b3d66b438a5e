use Rattle.std.proofs.Common.{map, take}
use Rattle.regex_hir.specs.Meaning.{meaning}
use Rattle.hub_listen.specs.Letters.{AreSameInLetters}
use Rattle.hub_listen.proofs.cut.+cut.Given as goal

abbrev pub invariant-cut_all-loop-i : goal.invariant-cut_all-loop-i
invariant-cut_all-loop-i l = AreSameInLetters (map meaning l.all.items) (map meaning (take l.i l.subs))

use Rattle.std.proofs.Common.{◌≡◌, ◌++◌, drop}
use Rattle.hub_views.specs.EventLines.{lines_of}
use Rattle.hub_views.proofs.events.lines_of.Given as goal

-- with the lines of the letters that are left, all lines are there
abbrev pub invariant-letters : goal.invariant-letters
invariant-letters l = l.lines.items ++ lines_of l.form l.stamp l.name l.next (drop l.letter-index l.letters) ≡ lines_of l.form l.stamp l.name l.fn.first l.letters

use Rattle.std.proofs.Common.{◌≡◌, take}
use Rattle.hub_look.specs.Tables.{width_of}
use Rattle.hub_look.proofs.table.width_of.Given as goal

-- the width of the names so far
abbrev pub invariant-names : goal.invariant-names
invariant-names l = l.width ≡ width_of (λ name. name.now) (take l.name-index l.names)

use Rattle.std.proofs.Common.{◌≡◌, map, take}
use Rattle.hub_commands.proofs.making.names_of.Given as goal

-- the names of the texts so far
abbrev pub invariant-texts : goal.invariant-texts
invariant-texts l = l.names.items ≡ map (λ text. text.now) (take l.text-index l.texts)

use Rattle.std.proofs.Common.{◌≡◌, map, take}
use Rattle.hub_look.proofs.table.words_of.Given as goal

-- the texts of the names so far
abbrev pub invariant-names : goal.invariant-names
invariant-names l = map (λ word. word.now) l.words.items ≡ map (λ name. name.bytes.items) (take l.name-index l.names)

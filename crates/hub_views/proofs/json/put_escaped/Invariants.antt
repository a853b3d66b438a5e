use Rattle.std.proofs.Common.{◌≡◌, ◌++◌, flat_map, take}
use Rattle.hub_views.specs.Json.{escaped}
use Rattle.hub_views.proofs.json.put_escaped.Given as goal

-- the bytes so far
abbrev pub invariant-bytes : goal.invariant-bytes
invariant-bytes l = l.line.items ≡ l.fn.line.items ++ flat_map escaped (take l.byte-index l.text)

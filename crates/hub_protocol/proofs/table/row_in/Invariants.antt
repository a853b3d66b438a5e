use Rattle.std.proofs.Common.{◌≤◌, map}
use Rattle.hub_protocol.specs.Table.{place_in, row_shown}
use Rattle.hub_protocol.proofs.table.row_in.Given as goal

-- no row so far has the word
abbrev pub invariant-loop-row : goal.invariant-loop-row
invariant-loop-row l = l.row-index ≤ place_in (map row_shown l.rows) l.word

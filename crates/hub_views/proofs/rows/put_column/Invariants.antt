use Rattle.std.proofs.Common.{◌≡◌, ◌++◌, replicate}
use Rattle.hub_views.specs.Descriptions.{in_column}
use Rattle.hub_views.proofs.rows.put_column.Given as goal

-- with the spaces that are missing, the column is full
abbrev pub invariant-spaces : goal.invariant-spaces
invariant-spaces l = l.line.bytes.items ++ replicate l.missing 32 ≡ l.fn.line.bytes.items ++ in_column l.width l.word

abbrev pub decreases-spaces : goal.decreases-spaces
decreases-spaces l = l.missing

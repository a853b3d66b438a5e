use Rattle.std.specs.Prelude.{All}
use Rattle.hub_commands.specs.Missing.{IsMissing}
use Rattle.hub_commands.proofs.missing.missing_of.Given as goal

-- each of those so far is missing
abbrev pub invariant-names : goal.invariant-names
invariant-names l = All (λ name. IsMissing l.there name.now) l.missing.items

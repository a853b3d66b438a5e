-- The verdict over several watches.
use Rattle.std.specs.Prelude.{Bool, ◌&&◌, not, List, Option, Some, None, if◌then◌else◌}
use Rattle.std.specs.List.{list_all, list_any}
use Rattle.hub_letters.specs.declared.span.Span.{Span}
use Rattle.hub_letters.specs.declared.span.Span.TheVariants.{All, Any}
use Rattle.hub_wait.specs.declared.tally.Verdict.{Verdict}
use Rattle.hub_wait.specs.declared.tally.Verdict.TheVariants.{Yes, Never}
use Rattle.hub_wait.specs.Watching.{Watching, is_met_at, is_lost_at}

-- the watch rules out that all are met
abbrev pub is_bar : Watching → Bool
is_bar w = not (is_met_at w) && is_lost_at w

-- All: yes if every one is met, else never if one is unmet and lost. Any: yes if one is met, else never if every one is
-- lost.
abbrev pub verdict : Span → List Watching → Option Verdict
verdict All watches = if list_all is_met_at watches then Some Yes else if list_any is_bar watches then Some Never else None
verdict Any watches = if list_any is_met_at watches then Some Yes else if list_all is_lost_at watches then Some Never else None

-- what a tally keeps
pub record Tallied : Type 0 where
  pub span : Span
  pub yes : Bool
  pub never : Bool

-- the tally of these watches
unfoldable pub tally_of : Span → List Watching → Tallied
tally_of All watches = record { span = All; yes = list_all is_met_at watches; never = list_any is_bar watches }
tally_of Any watches = record { span = Any; yes = list_any is_met_at watches; never = list_all is_lost_at watches }

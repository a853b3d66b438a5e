use Rattle.std.proofs.Common.{◌≢◌, ℕ, List, sym, subst}
use Rattle.hub_protocol.specs.Spelling.{Last, Pattern, IsPatternText, EndsAs, fields_of, pieces_of_last}
use Rattle.hub_protocol.specs.declared.table.Ending.TheVariants as ending
use Rattle.hub_protocol.proofs.Splits.{same_text}
use Rattle.hub_protocol.proofs.line.last_pattern.Goals as goal

no_pattern : (text : List ℕ) → (IsPatternText text → ⊥) → (last : Last) → EndsAs ending.Pattern last → fields_of text ≢ pieces_of_last last
no_pattern text none (Pattern pattern) h e = none (subst IsPatternText (sym (same_text text pattern e)) h)
no_pattern text none last h e = h

pub returns-else-is_pattern : goal.returns-else-is_pattern
returns-else-is_pattern c = no_pattern c.args.text.now c.if-is_pattern.ensures

-- Whether the words of `follow` have a line feed.
use Rattle.std.specs.Prelude.{ℕ, List, Bool, ◌||◌, Option, None, Some}
use Rattle.hub_client.specs.Passing.{has_lf}
use Rattle.hub_endings.specs.Words.{any_breaks}

-- whether a pattern or a name has an LF
abbrev pub follow_breaks : {T : Type 0} → (text : T → List ℕ) → (pattern : Option T) → (names : List T) → Bool
follow_breaks text None names = any_breaks text names
follow_breaks text (Some pattern) names = has_lf (text pattern) || any_breaks text names

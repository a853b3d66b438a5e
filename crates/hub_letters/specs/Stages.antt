-- The stage of a lawful word, and the stages followed letter by letter.
use Rattle.std.specs.Prelude.{ℕ, ◌≡◌, Result, Ok, Err, Bool, true, false, List, [], ◌∷◌, ◌++◌, Option, Some, None, map}
use Rattle.hub_letters.specs.declared.stage.Stage.{Stage}
use Rattle.hub_letters.specs.declared.stage.Stage.TheVariants.{Off, Idle, Starting, Ready, Ending}
use Rattle.hub_letters.specs.Marks.{Mark, Began, Ran, Reported, Died, Finished, GaveUp, Exited, Other, mark, last_among, is_life, is_supervision, is_began}
use Rattle.hub_letters.specs.Lawful.{IsLawful, IsFirstUnlawful}

-- the stage of a lawful word: Off if the last of s x is none or x, else by the last of s u U d D
abbrev pub stage_where : Bool → Option Mark → Stage
stage_where false m = Off
stage_where true None = Idle
stage_where true (Some Began) = Idle
stage_where true (Some Ran) = Starting
stage_where true (Some Reported) = Ready
stage_where true (Some Died) = Ending
stage_where true (Some Finished) = Idle
stage_where true (Some GaveUp) = Idle
stage_where true (Some Exited) = Idle
stage_where true (Some Other) = Idle

abbrev pub stage_by : List Mark → Stage
stage_by ms = stage_where (is_began (last_among is_supervision ms)) (last_among is_life ms)

abbrev pub stage_of : List ℕ → Stage
stage_of word = stage_by (map mark word)

-- ---- one letter at a time

-- the stage after one more letter, or none if the letter is unlawful there
abbrev pub next_by : Stage → Mark → Option Stage
next_by Off Began = Some Idle
next_by Idle Began = Some Idle
next_by Idle Ran = Some Starting
next_by Idle GaveUp = Some Idle
next_by Idle Exited = Some Off
next_by Starting Began = Some Idle
next_by Starting Reported = Some Ready
next_by Starting Died = Some Ending
next_by Starting GaveUp = Some Starting
next_by Starting Exited = Some Off
next_by Ready Began = Some Idle
next_by Ready Died = Some Ending
next_by Ready GaveUp = Some Ready
next_by Ready Exited = Some Off
next_by Ending Began = Some Idle
next_by Ending Finished = Some Idle
next_by Ending GaveUp = Some Ending
next_by Ending Exited = Some Off
next_by stage m = None

abbrev pub next_in : Option Stage → Mark → Option Stage
next_in None m = None
next_in (Some q) m = next_by q m

-- the stages followed over a word, from a stage
abbrev pub follow_by : Option Stage → List Mark → Option Stage
follow_by q [] = q
follow_by q (m ∷ ms) = follow_by (next_in q m) ms

abbrev pub stage_by_code : Stage → List ℕ → Option Stage
stage_by_code stage word = follow_by (Some stage) (map mark word)

-- ---- a message after a word

-- what following a message from the stage of a lawful word shows
abbrev pub Follows : List ℕ → List ℕ → Result Stage ℕ → Type 0
Follows word message (Ok stage) = IsLawful (word ++ message) × (stage ≡ stage_of (word ++ message))
Follows word message (Err i) = IsFirstUnlawful word message i

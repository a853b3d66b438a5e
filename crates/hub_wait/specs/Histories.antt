-- A watch along its service's history, which is the word of all its letters.
use Rattle.std.specs.Prelude.{ℕ, ◌≡◌, ◌+◌, ◌≤◌, max, Bool, true, false, ◌||◌, List, [], ◌∷◌, length, take, drop}
use Rattle.std.specs.List.{list_any}
use Rattle.hub_letters.specs.declared.want.Want.{Want}
use Rattle.hub_letters.specs.Flags.{flags_of}
use Rattle.hub_letters.specs.Marks.{has_fall}
use Rattle.hub_record.specs.declared.Status.{Status}
use Rattle.hub_wait.specs.Watching.{Watching, new_watching, watching_after_step, renewed_by}

-- the watch shows the flags of the first `at` letters of the history
pub record ShowsFlagsOf (watch : Watching) (history : List ℕ) : Type 0 where
  pub within : watch.at ≤ length history
  pub flags : watch.flags ≡ flags_of (take watch.at history)

-- whether a letter falls among those of the history from number `since` up to number `at`
abbrev pub has_fall_between : List ℕ → ℕ → ℕ → Bool
has_fall_between history since at = has_fall (drop since (take at history))

-- the watch fell only if a letter falls since it began
pub record ShowsFallsOf (watch : Watching) (history : List ℕ) : Type 0 where
  pub begun : watch.since ≤ watch.at
  pub only : watch.fell ≡ true → has_fall_between history watch.since watch.at ≡ true

-- the watch fell if a letter falls since it began
abbrev pub MissesNoFall : Watching → List ℕ → Type 0
MissesNoFall watch history = has_fall_between history watch.since watch.at ≡ true → watch.fell ≡ true

-- the letters are those of the history from number `first` on
pub record IsSlice (history : List ℕ) (first : ℕ) (letters : List ℕ) : Type 0 where
  pub within : first + length letters ≤ length history
  pub same : letters ≡ drop first (take (first + length letters) history)

-- the status is that of the first `number` letters of the history
pub record IsStatusIn (history : List ℕ) (status : Status) : Type 0 where
  pub within : status.number ≤ length history
  pub flags : status.flags ≡ flags_of (take status.number history)

-- what happens to a watch
pub data Move : Type 0 where
  Step : ℕ → List ℕ → Move  -- it gets letters, numbered from the first number
  Renew : Status → Move  -- it gets a status
  End : Move  -- it learns that no more will come

abbrev pub watching_after_move : Watching → Move → Watching
watching_after_move w (Step first letters) = watching_after_step w first letters
watching_after_move w (Renew status) = renewed_by w status
watching_after_move w End = record w { ended = true }

abbrev pub moved_by : Watching → List Move → Watching
moved_by w [] = w
moved_by w (m ∷ ms) = moved_by (watching_after_move w m) ms

abbrev pub is_end : Move → Bool
is_end (Step first letters) = false
is_end (Renew status) = status.closed
is_end End = true

abbrev pub is_renewal : Move → Bool
is_renewal (Step first letters) = false
is_renewal (Renew status) = true
is_renewal End = false

-- how far a watch is after a move: at a slice's end, unless it was further already, or at a status's number
abbrev pub reach : ℕ → Move → ℕ
reach at (Step first letters) = max at (first + length letters)
reach at (Renew status) = status.number
reach at End = at

abbrev pub furthest : ℕ → List Move → ℕ
furthest at [] = at
furthest at (m ∷ ms) = furthest (reach at m) ms

-- letters are a slice of the history that leaves no gap after number `at`, and a status isn't older than that
abbrev pub IsMoveAlong : List ℕ → ℕ → Move → Type 0
IsMoveAlong history at (Step first letters) = (first ≤ at) × IsSlice history first letters
IsMoveAlong history at (Renew status) = (at ≤ status.number) × IsStatusIn history status
IsMoveAlong history at End = Unit {0}

abbrev pub AreMovesAlong : List ℕ → ℕ → List Move → Type 0
AreMovesAlong history at [] = Unit {0}
AreMovesAlong history at (m ∷ ms) = IsMoveAlong history at m × AreMovesAlong history (reach at m) ms

-- what the moves have made of a watch
pub record HasMoved (history : List ℕ) (moves : List Move) (old new : Watching) : Type 0 where
  pub follows : ShowsFlagsOf new history
  pub falls : ShowsFallsOf new history
  pub misses_no_fall : list_any is_renewal moves ≡ false → MissesNoFall old history → MissesNoFall new history
  pub since : new.since ≡ old.since
  pub at : new.at ≡ furthest old.at moves
  pub want : new.want ≡ old.want
  pub notifies : new.notifies ≡ old.notifies
  pub ended : new.ended ≡ (old.ended || list_any is_end moves)

-- a watch that begins at a status of a history follows it
pub record Begins (history : List ℕ) (watch : Watching) : Type 0 where
  pub follows : ShowsFlagsOf watch history
  pub falls : ShowsFallsOf watch history
  pub misses_no_fall : MissesNoFall watch history

abbrev pub BeginAtAnyStatus : Type 0
BeginAtAnyStatus = (history : List ℕ) (want : Want) (notifies : Bool) (status : Status) → IsStatusIn history status → Begins history (new_watching want notifies status)

-- A watch that follows a history, and gets slices of it that are cut anywhere and overlap, or statuses that are not older
-- than what it knows, follows it up to the furthest of them.
abbrev pub FollowAnySlices : Type 0
FollowAnySlices = (history : List ℕ) (moves : List Move) (watch : Watching) → ShowsFlagsOf watch history → ShowsFallsOf watch history
    → AreMovesAlong history watch.at moves → HasMoved history moves watch (moved_by watch moves)

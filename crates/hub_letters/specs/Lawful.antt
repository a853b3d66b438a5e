-- The lawful order of a service's letters.
use Rattle.std.specs.Prelude.{ℕ, ◌≡◌, ◌<◌, ◌+◌, length, Bool, true, false, List, [], ◌∷◌, ◌++◌, Some, map, filter, take, slice_get}
use Rattle.std.specs.List.{flat_map}
use Rattle.hub_letters.specs.Marks.{Mark, Began, Ran, Reported, Died, Finished, GaveUp, Exited, mark, last_among, is_supervision}

-- what a service does between two starts
pub data Block : Type 0 where
  Silent : Block  -- u d D
  Loud : Block  -- u U d D

abbrev pub block_marks : Block → List Mark
block_marks Silent = Ran ∷ Died ∷ Finished ∷ []
block_marks Loud = Ran ∷ Reported ∷ Died ∷ Finished ∷ []

-- a segment: s, then the first `cut` letters of a row of blocks, then x if it exits
pub record Segment : Type 0 where
  pub blocks : List Block
  pub cut : ℕ
  pub exits : Bool

abbrev pub exit_marks : Bool → List Mark
exit_marks true = Exited ∷ []
exit_marks false = []

abbrev pub segment_marks : Segment → List Mark
segment_marks g = Began ∷ (take g.cut (flat_map block_marks g.blocks) ++ exit_marks g.exits)

abbrev pub is_kept : Mark → Bool
is_kept GaveUp = false
is_kept m = true

-- lawful: without its O's the marks are a row of segments, and before each O the last of s x is s
pub record IsLawfulRow (ms : List Mark) : Type 0 where
  pub segments : List Segment
  pub spelled : filter is_kept ms ≡ flat_map segment_marks segments
  pub within : (i : ℕ) → slice_get ms i ≡ Some GaveUp → last_among is_supervision (take i ms) ≡ Some Began

abbrev pub IsLawful : List ℕ → Type 0
IsLawful word = IsLawfulRow (map mark word)

-- place i is the least of the message for which the word, followed by the message up to and including it, isn't lawful
pub record IsFirstUnlawful (word message : List ℕ) (i : ℕ) : Type 0 where
  pub inside : i < length message
  pub before : (j : ℕ) → j < i → IsLawful (word ++ take (j + 1) message)
  pub broken : IsLawful (word ++ take (i + 1) message) → ⊥

-- How long an unfinished reply is.
use Rattle.std.specs.Prelude.{ℕ, ◌+◌, List, [], ◌∷◌, ◌==◌, if◌then◌else◌}

-- how many bytes came since the last LF, if unfinished did before these
abbrev pub unfinished_after : (unfinished : ℕ) → List ℕ → ℕ
unfinished_after unfinished [] = unfinished
unfinished_after unfinished (b ∷ bs) = unfinished_after (if b == 10 then 0 else unfinished + 1) bs

-- What the numbers of a command line may be.
use Rattle.std.specs.Prelude.{ℕ, ◌≤◌}

abbrev pub IsInRange : (least most : ℕ) → ℕ → Type 0
IsInRange least most number = (least ≤ number) × (number ≤ most)

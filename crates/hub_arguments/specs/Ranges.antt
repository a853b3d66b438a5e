-- What is kept of the numbers of a command line.
use Rattle.std.specs.Prelude.{ℕ, nat_le, ◌&&◌, Option, None, Some, if◌then◌else◌}

-- the number, if it is in range
abbrev pub kept_in : (least most : ℕ) → Option ℕ → Option ℕ
kept_in least most None = None
kept_in least most (Some number) = if nat_le least number && nat_le number most then Some number else None

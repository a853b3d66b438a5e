-- Lines as a session sees them: it keeps the first 513 bytes of each.
use Rattle.std.specs.Prelude.{◌≡◌, ℕ, ◌≤◌, List, [], ◌++◌, length, map, take, Option}
use Rattle.std.specs.Io.KnownBytes.{Consumes}
use Rattle.hub_io.specs.Lines.{complete_after, rest_after, last_line}
use Rattle.hub_front.specs.Serving.{Asking, Served}

-- what is kept of a line
abbrev pub cut : List ℕ → List ℕ
cut line = take 513 line

-- the lines that end within the bytes, each as it is kept; kept is what was kept of the first one before
abbrev pub complete_pieces : (bytes kept : List ℕ) → List (List ℕ)
complete_pieces bytes kept = map cut (complete_after kept bytes)

-- what is kept of the unfinished line after the bytes
abbrev pub piece_left : (bytes kept : List ℕ) → List ℕ
piece_left bytes kept = cut (rest_after kept bytes)

-- all lines of an input, the first 513 bytes of each
abbrev pub pieces_of : List ℕ → List (List ℕ)
pieces_of bytes = complete_pieces bytes [] ++ last_line (piece_left bytes [])

-- A session after some reads, which gave at least `least` bytes: the lines that ended were served, and the beginning of
-- the unfinished line was kept.
pub record IsUnderWay {D : Type 0} (asks : Asking D) (old mid : D) (held holds had has : Option (List ℕ))
    (line : List ℕ) (count least : ℕ) : Type 0 where
  pub input : List ℕ
  pub consumed : Consumes had has input
  pub long : least ≤ length input
  pub served : Served asks old (complete_pieces input []) held holds mid
  pub kept : line ≡ piece_left input []
  pub counted : count ≡ length (complete_pieces input [])

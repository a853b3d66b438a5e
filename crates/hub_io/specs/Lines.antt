-- The lines of an input.
use Rattle.std.specs.Prelude.{◌≡◌, ℕ, Bool, false, List, [], ◌∷◌, ◌++◌, ◌==◌, if◌then◌else◌}
use Rattle.std.specs.List.{list_any}

-- whether there is an LF among the bytes
abbrev pub has_lf : List ℕ → Bool
has_lf bytes = list_any (λ b. b == 10) bytes

-- a line with its LF
pub record IsLine (bytes : List ℕ) : Type 0 where
  pub line : List ℕ
  pub cut : has_lf line ≡ false
  pub ends : bytes ≡ line ++ 10 ∷ []

-- The bytes begin with a line. Their first LF ends it, and rest is behind that LF.
pub record BeginsWith (bytes line rest : List ℕ) : Type 0 where
  pub cut : has_lf line ≡ false
  pub whole : bytes ≡ line ++ 10 ∷ rest

-- with prefix put before the first line, if there is one
abbrev pub onto_first : List ℕ → List (List ℕ) → List (List ℕ)
onto_first prefix [] = []
onto_first prefix (line ∷ lines) = (prefix ++ line) ∷ lines

-- the pieces before each LF
abbrev pub complete_of : List ℕ → List (List ℕ)
complete_of [] = []
complete_of (b ∷ bs) = if b == 10 then [] ∷ complete_of bs else onto_first (b ∷ []) (complete_of bs)

-- the bytes after the last LF
abbrev pub rest_of : List ℕ → List ℕ
rest_of [] = []
rest_of (b ∷ bs) = if has_lf (b ∷ bs) then rest_of bs else b ∷ bs

-- the same for bytes that come after the prefix of a line
abbrev pub complete_after : (prefix bytes : List ℕ) → List (List ℕ)
complete_after prefix bytes = onto_first prefix (complete_of bytes)

abbrev pub rest_after : (prefix bytes : List ℕ) → List ℕ
rest_after prefix bytes = if has_lf bytes then rest_of bytes else prefix ++ bytes

-- a last piece is a line if it isn't empty
abbrev pub last_line : List ℕ → List (List ℕ)
last_line [] = []
last_line (b ∷ bs) = (b ∷ bs) ∷ []

-- the pieces before each LF, and a last piece without LF if it isn't empty
abbrev pub lines_of : List ℕ → List (List ℕ)
lines_of bytes = complete_of bytes ++ last_line (rest_of bytes)

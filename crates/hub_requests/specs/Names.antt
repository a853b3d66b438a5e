-- The names of fifodirs.
use Rattle.std.specs.Prelude.{ℕ, List, [], ◌∷◌, ◌++◌, length, nat_lt, nat_le, Bool, ◌&&◌, ◌||◌, not, ◌==◌}
use Rattle.std.specs.List.{list_all}
use Rattle.hub_requests.specs.declared.bounds.TheConstants.{LONGEST_NAME}

-- the byte is within low to high
abbrev pub within : ℕ → ℕ → ℕ → Bool
within low high b = not (nat_lt b low) && not (nat_lt high b)

-- A to Z, a to z, 0 to 9, _ . -
abbrev pub is_name_byte : ℕ → Bool
is_name_byte b = within 65 90 b || within 97 122 b || within 48 57 b || b == 95 || b == 46 || b == 45

-- 1 to 32 bytes that names may have
abbrev pub is_name : List ℕ → Bool
is_name bytes = nat_lt 0 (length bytes) && nat_le (length bytes) LONGEST_NAME && list_all is_name_byte bytes

-- names, each with a space before it
abbrev pub names_text : List (List ℕ) → List ℕ
names_text [] = []
names_text (name ∷ rest) = 32 ∷ (name ++ names_text rest)

-- How JSON writes texts and numbers.
use Rattle.std.specs.Prelude.{ℕ, List, [], ◌∷◌, ◌++◌, codes, flat_map, ◌==◌, ◌||◌, if◌then◌else◌, Option, None, Some}
use Rattle.std.specs.Fmt.{decimal}

-- A quotation mark and a backslash have a backslash before them.
abbrev pub escaped : (byte : ℕ) → List ℕ
escaped byte = if byte == 34 || byte == 92 then 92 ∷ byte ∷ [] else byte ∷ []

-- a string, of a text that has no control character
abbrev pub string_of : (text : List ℕ) → List ℕ
string_of text = 34 ∷ (flat_map escaped text ++ 34 ∷ [])

-- a string, or null if there is no text
abbrev pub string_or_null : Option (List ℕ) → List ℕ
string_or_null None = codes "null"
string_or_null (Some text) = string_of text

-- a number, or null if there is none
abbrev pub number_or_null : Option ℕ → List ℕ
number_or_null None = codes "null"
number_or_null (Some number) = decimal number

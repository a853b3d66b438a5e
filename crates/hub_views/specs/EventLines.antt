-- The lines of letters that came.
use Rattle.std.specs.Prelude.{◌≡◌, ℕ, ◌+◌, ◌^◌, List, [], ◌∷◌, ◌++◌, codes, Bool, true, false, ◌==◌, ◌||◌, nat_lt, if◌then◌else◌, Option, None, Some}
use Rattle.std.specs.List.{list_all}
use Rattle.hub_requests.specs.Names.{within}
use Rattle.hub_requests.specs.Texts.{number_or_dash}
use Rattle.hub_views.specs.Json.{number_or_null, string_of, string_or_null}
use Rattle.hub_views.specs.declared.form.Form.{Form}
use Rattle.hub_views.specs.declared.form.Form.TheVariants.{Line, Plain, Json}

-- a digit, `-`, `:`, `T` or `Z`: what a time is written with
abbrev pub is_stamp_byte : ℕ → Bool
is_stamp_byte b = within 48 57 b || b == 45 || b == 58 || b == 84 || b == 90

abbrev pub IsStamp : List ℕ → Type 0
IsStamp text = list_all is_stamp_byte text ≡ true

-- what a letter of a service says of it
abbrev pub meaning_of : ℕ → Option (List ℕ)
meaning_of letter =
    if letter == 115 then Some (codes "supervised") else
    if letter == 117 then Some (codes "up") else
    if letter == 85 then Some (codes "ready") else
    if letter == 100 then Some (codes "down") else
    if letter == 68 then Some (codes "finished") else
    if letter == 79 then Some (codes "failed") else
    if letter == 120 then Some (codes "unsupervised") else None

-- a word behind others, if there is one
abbrev pub behind : Option (List ℕ) → List ℕ
behind None = []
behind (Some word) = 32 ∷ word

-- when something came and whose it is
abbrev pub head_of : (stamp name : List ℕ) → List ℕ
head_of stamp name = stamp ++ (32 ∷ (name ++ 32 ∷ []))

-- the line of a letter: when it came, its name, its number if that is known, the letter, and what it says
abbrev pub line_of : (stamp name : List ℕ) (number : Option ℕ) (letter : ℕ) → List ℕ
line_of stamp name number letter = head_of stamp name ++ (number_or_dash number ++ 32 ∷ letter ∷ (behind (meaning_of letter) ++ 10 ∷ []))

-- the beginning of an object: when something came, and whose it is
abbrev pub opening_of : (stamp name : List ℕ) → List ℕ
opening_of stamp name = codes "{\"time\":" ++ (string_of stamp ++ (codes ",\"name\":" ++ string_of name))

-- the members for the number of a letter, the letter itself, and what it says
abbrev pub numbering : (number : Option ℕ) → List ℕ
numbering number = codes ",\"number\":" ++ number_or_null number

abbrev pub lettering : (letter : ℕ) → List ℕ
lettering letter = codes ",\"letter\":" ++ string_of (letter ∷ [])

abbrev pub saying : (letter : ℕ) → List ℕ
saying letter = codes ",\"says\":" ++ string_or_null (meaning_of letter)

-- a letter as an object on a line
abbrev pub object_of : (stamp name : List ℕ) (number : Option ℕ) (letter : ℕ) → List ℕ
object_of stamp name number letter = opening_of stamp name ++ (numbering number ++ (lettering letter ++ (saying letter ++ codes "}\n")))

-- a letter in one of the forms
abbrev pub letter_line : Form → (stamp name : List ℕ) (number : Option ℕ) (letter : ℕ) → List ℕ
letter_line Line stamp name number letter = line_of stamp name number letter
letter_line Plain stamp name number letter = letter ∷ 10 ∷ []
letter_line Json stamp name number letter = object_of stamp name number letter

-- the number after so many events, if one is known; the largest is 2^64 - 1
abbrev pub number_after : Option ℕ → (count : ℕ) → Option ℕ
number_after None count = None
number_after (Some number) count = if nat_lt (number + count) (2 ^ 64) then Some (number + count) else None

-- the lines of letters, the first of which has this number
abbrev pub lines_of : Form → (stamp name : List ℕ) (first : Option ℕ) → List ℕ → List ℕ
lines_of form stamp name first [] = []
lines_of form stamp name first (letter ∷ letters) = letter_line form stamp name first letter ++ lines_of form stamp name (number_after first 1) letters

-- the line of a hit, with all letters up to it
abbrev pub hit_line : Form → (stamp name letters : List ℕ) → List ℕ
hit_line Line stamp name letters = head_of stamp name ++ (letters ++ 10 ∷ [])
hit_line Plain stamp name letters = letters ++ 10 ∷ []
hit_line Json stamp name letters = opening_of stamp name ++ (codes ",\"letters\":" ++ (string_of letters ++ codes "}\n"))

-- what is written of these letters, or of this hit
abbrev pub written_as : (is_hit : Bool) → Form → (stamp name : List ℕ) (first : Option ℕ) (letters : List ℕ) → List ℕ
written_as true form stamp name first letters = hit_line form stamp name letters
written_as false form stamp name first letters = lines_of form stamp name first letters

-- The text is what is written of these letters of a fifodir, or of this hit. It came at one time.
abbrev pub IsTextOf : (is_hit : Bool) → Form → (name : List ℕ) (first : Option ℕ) (letters text : List ℕ) → Type 0
IsTextOf is_hit form name first letters text = (stamp : List ℕ) × IsStamp stamp × (text ≡ written_as is_hit form stamp name first letters)

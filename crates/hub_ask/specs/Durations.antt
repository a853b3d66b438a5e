-- How long a wait may take, and for how many turns a hub may sleep before it answers.
use Rattle.std.specs.Prelude.{◌≡◌, ◌⊎◌, ℕ, ◌+◌, ◌*◌, List, [], ◌∷◌, ◌++◌, length, codes}
use Rattle.std.specs.Int.{IsInRange}
use Rattle.std.specs.Str.Parse.{IsNumeral, digits_value}
use Rattle.hub_requests.specs.declared.request.Request.{Request}
use Rattle.hub_requests.specs.declared.request.Request.TheVariants.{Wait, Await, Next}
use Rattle.hub_protocol.specs.Reading.{Spells}

-- a unit of durations, and how many milliseconds one of it has
abbrev pub IsUnit : (unit : List ℕ) → (each : ℕ) → Type 0
IsUnit unit each = ((unit ≡ codes "ms") × (each ≡ 1))
    ⊎ (((unit ≡ codes "s") × (each ≡ 1000))
    ⊎ (((unit ≡ codes "m") × (each ≡ 60000))
    ⊎ (((unit ≡ codes "h") × (each ≡ 3600000))
    ⊎ ((unit ≡ []) × (each ≡ 1000)))))

-- of so many digits behind a point, the last one counts so many thousandths; there are three at most
abbrev pub IsPlace : (count place : ℕ) → Type 0
IsPlace count place = ((count ≡ 1) × (place ≡ 100)) ⊎ (((count ≡ 2) × (place ≡ 10)) ⊎ ((count ≡ 3) × (place ≡ 1)))

-- the digits behind a point write so many thousandths
pub record WritesFraction (digits : List ℕ) (thousandths : ℕ) : Type 0 where
  pub numeral : IsNumeral 10 digits
  pub place : ℕ
  pub of_place : IsPlace (length digits) place
  pub counted : thousandths ≡ digits_value 10 digits * place

-- digits, a point and digits write so many thousandths
pub record WritesBoth (number : List ℕ) (thousandths : ℕ) : Type 0 where
  pub whole : List ℕ
  pub fraction : List ℕ
  pub split : number ≡ whole ++ (46 ∷ fraction)
  pub numeral : IsNumeral 10 whole
  pub behind : ℕ
  pub written : WritesFraction fraction behind
  pub counted : thousandths ≡ digits_value 10 whole * 1000 + behind

-- the number, which may have a point, is so many thousandths
abbrev pub WritesNumber : (number : List ℕ) → (thousandths : ℕ) → Type 0
WritesNumber number thousandths =
    (IsNumeral 10 number × (thousandths ≡ digits_value 10 number * 1000)) ⊎ WritesBoth number thousandths

-- the text is a number and a unit, and just so many milliseconds long
pub record SpellsDuration (text : List ℕ) (millis : ℕ) : Type 0 where
  pub number : List ℕ
  pub unit : List ℕ
  pub each : ℕ
  pub of_unit : IsUnit unit each
  pub split : text ≡ number ++ unit
  pub thousandths : ℕ
  pub written : WritesNumber number thousandths
  pub counted : millis * 1000 ≡ thousandths * each

-- the last byte is a digit, if there is one
abbrev pub EndsWithDigit : List ℕ → Type 0
EndsWithDigit text = (front : List ℕ) (byte : ℕ) → text ≡ front ++ (byte ∷ []) → IsInRange 48 57 byte

-- The text is these bytes and a unit of so many milliseconds. If it is a number and a unit at all, it is this number and this unit.
pub record AreParts (text number : List ℕ) (each : ℕ) : Type 0 where
  pub unit : List ℕ
  pub of_unit : IsUnit unit each
  pub split : text ≡ number ++ unit
  pub only : (digits other : List ℕ) (millis : ℕ) → IsUnit other millis → EndsWithDigit digits → text ≡ digits ++ other → (digits ≡ number) × (millis ≡ each)

-- those of a wait, an await or a next
abbrev pub turns_of_request : Request → ℕ
turns_of_request (Wait span want turns names) = turns
turns_of_request (Await id turns) = turns
turns_of_request (Next id turns) = turns
turns_of_request other = 0

-- the line spells a request with so many turns
abbrev pub AsksFor : (line : List ℕ) → (turns : ℕ) → Type 0
AsksFor line turns = (request : Request) × Spells line request × (turns ≡ turns_of_request request)

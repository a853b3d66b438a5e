-- What a line is read as: the request that it spells, or the first rule that it breaks.
use Rattle.std.specs.Prelude.{◌≡◌, ℕ, ◌<◌, ◌≤◌, List, length, All, Any, Result, Ok, Err, ◌==◌}
use Rattle.std.specs.List.{before_first}
use Rattle.hub_requests.specs.declared.request.Request.{Request}
use Rattle.hub_requests.specs.declared.reply.Refusal.{Refusal}
use Rattle.hub_requests.specs.declared.reply.Refusal.TheVariants.{Long, Text, Word, Range, Memory}
use Rattle.hub_requests.specs.declared.reply.Refusal.TheVariants as no
use Rattle.hub_requests.specs.Ranges.{IsInRange}
use Rattle.hub_protocol.specs.Table.{IsWord}
use Rattle.hub_protocol.specs.Spelling.{Form, IsForm, IsWithin, spelling, form_of}

-- the bytes up to the first space, or all of them
abbrev pub first_word : List ℕ → List ℕ
first_word line = before_first (λ b. b == 32) line

-- a byte that may be in a line
abbrev pub IsTextByte : ℕ → Type 0
IsTextByte b = (32 ≤ b) × (b ≤ 126)

-- at most 512 bytes, each of which may be in a line
pub record IsText (line : List ℕ) : Type 0 where
  pub short : length line ≤ 512
  pub plain : All IsTextByte line

-- the line has the form
pub record HasForm (line : List ℕ) (form : Form) : Type 0 where
  pub formed : IsForm form
  pub spelled : line ≡ spelling form

-- the line spells the request
pub record Spells (line : List ℕ) (request : Request) : Type 0 where
  pub text : IsText line
  pub form : HasForm line (form_of request)
  pub within : IsInRange request

-- No line is refused for another reason than these six.
abbrev pub IsReading : List ℕ → Result Request Refusal → Type 0
IsReading line (Ok request) = Spells line request
IsReading line (Err Long) = 512 < length line
IsReading line (Err Text) = (length line ≤ 512) × Any (λ b. IsTextByte b → ⊥) line
IsReading line (Err Word) = IsText line × (IsWord (first_word line) → ⊥)
IsReading line (Err no.Form) = IsText line × IsWord (first_word line) × ((form : Form) → HasForm line form → ⊥)
IsReading line (Err Range) = IsText line × (form : Form) × HasForm line form × (IsWithin form → ⊥)
IsReading line (Err Memory) = (request : Request) × Spells line request
IsReading line (Err refusal) = ⊥

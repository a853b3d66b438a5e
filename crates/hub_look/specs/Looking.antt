-- The requests that only look: they publish nothing, and make and close no fifodir.
use Rattle.std.specs.Prelude.{◌≡◌, ◌⊎◌, List, ℕ, Result, Ok, Err}
use Rattle.hub_requests.specs.declared.request.Request.{Request}
use Rattle.hub_requests.specs.declared.request.Request.TheVariants.{Names, Status, About, Sub, Listen, Next, Cancel}
use Rattle.hub_requests.specs.declared.reply.Refusal.{Refusal}
use Rattle.hub_requests.specs.declared.reply.Refusal.TheVariants.{Word}
use Rattle.hub_protocol.specs.Reading.{IsReading, Spells}

abbrev pub IsLook : Request → Type 0
IsLook (Names from) = Unit {0}
IsLook (Status name) = Unit {0}
IsLook (About name) = Unit {0}
IsLook (Sub name) = Unit {0}
IsLook (Listen name mode pattern) = Unit {0}
IsLook (Next id turns) = Unit {0}
IsLook (Cancel id) = Unit {0}
IsLook other = ⊥

-- The look that a line spells. Else the hub's refusal of the line, or Word if the line spells another request.
abbrev pub LooksBy : (line : List ℕ) → Result Request Refusal → Type 0
LooksBy line (Ok request) = Spells line request × IsLook request
LooksBy line (Err refusal) = IsReading line (Err refusal) ⊎ ((refusal ≡ Word) × (request : Request) × Spells line request × (IsLook request → ⊥))

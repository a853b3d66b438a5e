-- How far a session is, from one step to the next.
use Rattle.std.specs.Prelude.{◌≡◌, ◌≢◌, ◌≤◌, ◌+◌, ℕ, Bool, true, false, List, [], ◌∷◌, ◌++◌, length, flat_map, Option, Result, Err}
use Rattle.std.specs.Io.KnownBytes.{Appends}
use Rattle.hub_io.specs.Lines.{complete_of}
use Rattle.hub_requests.specs.declared.reply.Reply.{Reply}
use Rattle.hub_requests.specs.Texts.{text_of}
use Rattle.hub_io.specs.declared.fault.FrontError.{FrontError}
use Rattle.hub_io.specs.declared.fault.FrontError.TheVariants.{Write}
use Rattle.hub_front.specs.Serving.{Asking, Run}
use Rattle.hub_gather.specs.Steps.{Step, Read, Answered, Wrote, Broke, MaySleep, Adds}
use Rattle.hub_gather.specs.declared.batch.TheConstants.{MOST_HELD}

-- how far a session is after some steps
pub record At : Type 0 where
  -- how many lines ended in what was read
  pub ended : ℕ
  -- how many were answered
  pub done : ℕ
  -- what is held back
  pub held : List ℕ
  -- whether a write has failed
  pub over : Bool

-- no write has failed
abbrev pub at : (ended done : ℕ) → List ℕ → At
at ended done held = record { ended = ended; done = done; held = held; over = false }

-- how far it is before a step, and after it
abbrev pub Passes : At → Step → At → Type 0
Passes s (Read bytes) t = (s.ended ≤ s.done) × (s.held ≡ []) × (t ≡ at (s.ended + length (complete_of bytes)) s.done [])
Passes s (Answered line reply) t =
    (MaySleep line → s.held ≡ []) × (length (s.held ++ text_of reply) ≤ MOST_HELD) × (t ≡ at s.ended (s.done + 1) (s.held ++ text_of reply))
Passes s (Wrote bytes) t = (bytes ≡ s.held) × (t ≡ at s.ended s.done [])
Passes s (Broke bytes) t = (s.held ≡ bytes ++ t.held) × (t.ended ≡ s.ended) × (t.done ≡ s.done) × (t.over ≡ true)

-- and over several steps, none of which is made after a write that failed
abbrev pub PassesEach : At → List Step → At → Type 0
PassesEach s [] t = t ≡ s
PassesEach s (step ∷ steps) t = (mid : At) × (s.over ≡ false) × Passes s step mid × PassesEach mid steps t

-- a history, if it is known, grew by steps before which a session is so far, and after which it is so far
pub record Paces (old new : Option (List Step)) (s t : At) : Type 0 where
  pub steps : List Step
  pub added : Adds old new steps
  pub passed : PassesEach s steps t

-- however many lines ended in what was read, so many were answered, and so much is held
abbrev pub Works : (old new : Option (List Step)) → (done : ℕ) → List ℕ → (did : ℕ) → List ℕ → Type 0
Works old new done held did holds = (ended : ℕ) → Paces old new (at ended done held) (at ended did holds)

-- the same at a write that failed: what is held after it is lost
abbrev pub WorksOut : (old new : Option (List Step)) → (done : ℕ) → List ℕ → Type 0
WorksOut old new done held = (ended : ℕ) → ((lost : At) × Paces old new (at ended done held) lost)

-- a session is so far at the end, but where a write failed
pub record PacesUntil {T : Type 0} (old new : Option (List Step)) (s t : At) (result : Result T FrontError) : Type 0 where
  pub last : At
  pub paces : Paces old new s last
  pub whole : result ≢ Err Write → last ≡ t

-- the same, however many lines ended in what was read
abbrev pub WorksUntil : {T : Type 0} → (old new : Option (List Step)) → (done did : ℕ) → Result T FrontError → Type 0
WorksUntil old new done did result = (ended : ℕ) → PacesUntil old new (at ended done []) (at ended did []) result

-- The lines were answered. What was held and the texts of the replies are what was written and what is held after them.
pub record Gathers {D : Type 0} (asks : Asking D) (old : D) (lines : List (List ℕ)) (held : List ℕ)
    (had has : Option (List ℕ)) (holds : List ℕ) (new : D) : Type 0 where
  pub replies : List Reply
  pub run : Run asks old lines replies new
  pub sent : List ℕ
  pub written : Appends had has sent
  pub texts : held ++ flat_map text_of replies ≡ sent ++ holds

-- what was held is what was written and what is held after it
pub record Sends (held : List ℕ) (had has : Option (List ℕ)) (holds : List ℕ) : Type 0 where
  pub sent : List ℕ
  pub written : Appends had has sent
  pub whole : held ≡ sent ++ holds

-- What a session does with its client, step by step, and what it may hold back meanwhile.
use Rattle.std.specs.Prelude.{◌≡◌, ◌≢◌, ◌≤◌, ◌<◌, ◌+◌, ℕ, List, [], ◌∷◌, ◌++◌, length, take, Option, None, Some, ⊤, Result, Ok, Err}
use Rattle.hub_io.specs.Lines.{complete_of}
use Rattle.hub_requests.specs.declared.request.Request.{Request}
use Rattle.hub_requests.specs.declared.request.Request.TheVariants.{Wait, Await, Next}
use Rattle.hub_requests.specs.declared.reply.Reply.{Reply}
use Rattle.hub_requests.specs.declared.reply.Refusal.{Refusal}
use Rattle.hub_requests.specs.Texts.{text_of}
use Rattle.hub_io.specs.declared.fault.FrontError.{FrontError}
use Rattle.hub_io.specs.declared.fault.FrontError.TheVariants.{Write}
use Rattle.hub_gather.specs.declared.batch.TheConstants.{MOST_HELD}

-- one step of a session
pub data Step : Type 0 where
  -- the client was read, and these bytes came
  Read : (bytes : List ℕ) → Step
  -- a line that was read so was given this reply
  Answered : (line : Result Request Refusal) → (reply : Reply) → Step
  -- these bytes were written to the client
  Wrote : (bytes : List ℕ) → Step
  -- a write failed, after these bytes of it
  Broke : (bytes : List ℕ) → Step

-- the bytes that a read gave
abbrev pub bytes_read : {E : Type 0} → Result ℕ E → List ℕ → List ℕ
bytes_read (Ok n) buf = take n buf
bytes_read (Err e) buf = []

-- how many lines ended in what was read
abbrev pub ended_of : List Step → ℕ
ended_of [] = 0
ended_of (Read bytes ∷ steps) = length (complete_of bytes) + ended_of steps
ended_of (Answered line reply ∷ steps) = ended_of steps
ended_of (Wrote bytes ∷ steps) = ended_of steps
ended_of (Broke bytes ∷ steps) = ended_of steps

-- how many lines were answered
abbrev pub answered_of : List Step → ℕ
answered_of [] = 0
answered_of (Read bytes ∷ steps) = answered_of steps
answered_of (Answered line reply ∷ steps) = 1 + answered_of steps
answered_of (Wrote bytes ∷ steps) = answered_of steps
answered_of (Broke bytes ∷ steps) = answered_of steps

-- the texts of all replies, in order
abbrev pub texts_of : List Step → List ℕ
texts_of [] = []
texts_of (Answered line reply ∷ steps) = text_of reply ++ texts_of steps
texts_of (Read bytes ∷ steps) = texts_of steps
texts_of (Wrote bytes ∷ steps) = texts_of steps
texts_of (Broke bytes ∷ steps) = texts_of steps

-- all that was written, in order
abbrev pub written_of : List Step → List ℕ
written_of [] = []
written_of (Wrote bytes ∷ steps) = bytes ++ written_of steps
written_of (Broke bytes ∷ steps) = bytes ++ written_of steps
written_of (Read bytes ∷ steps) = written_of steps
written_of (Answered line reply ∷ steps) = written_of steps

-- a request that may sleep until something happens
abbrev pub MaySleep : Result Request Refusal → Type 0
MaySleep (Ok (Wait span want turns names)) = ⊤
MaySleep (Ok (Await id turns)) = ⊤
MaySleep (Ok (Next id turns)) = ⊤
MaySleep line = ⊥

-- a step before which no reply may be held back: the client may be waiting for one
abbrev pub MayWait : Step → Type 0
MayWait (Read bytes) = ⊤
MayWait (Answered line reply) = MaySleep line
MayWait (Wrote bytes) = ⊥
MayWait (Broke bytes) = ⊥

-- At each read, all lines that ended in what was read have been answered. Then, and before each request that may sleep, the texts of all
-- replies so far have been written. A write is of all that is missing of these texts. At each time what was written is the beginning of
-- them, and few bytes are missing. Nothing is done after a write that failed.
pub record IsPrompt (steps : List Step) : Type 0 where
  pub answered : (before after : List Step) (bytes : List ℕ) → steps ≡ before ++ Read bytes ∷ after
      → ended_of before ≤ answered_of before
  pub written : (before after : List Step) (step : Step) → steps ≡ before ++ step ∷ after → MayWait step
      → written_of before ≡ texts_of before
  pub whole : (before after : List Step) (bytes : List ℕ) → steps ≡ before ++ Wrote bytes ∷ after
      → written_of before ++ bytes ≡ texts_of before
  pub held : (before after : List Step) → steps ≡ before ++ after
      → (rest : List ℕ) × (texts_of before ≡ written_of before ++ rest) × (length rest ≤ MOST_HELD)
  pub last : (before after : List Step) (bytes : List ℕ) → steps ≡ before ++ Broke bytes ∷ after → after ≡ []

-- a history, if it is known, grew by these steps
abbrev pub Adds : Option (List Step) → Option (List Step) → List Step → Type 0
Adds None new steps = ⊤
Adds (Some old) None steps = ⊥
Adds (Some old) (Some new) steps = new ≡ old ++ steps

-- a session ended with this result after prompt steps, and nothing is held back but after a write that failed
pub record EndsPrompt {T : Type 0} (old new : Option (List Step)) (result : Result T FrontError) : Type 0 where
  pub steps : List Step
  pub added : Adds old new steps
  pub prompt : IsPrompt steps
  pub whole : result ≢ Err Write → written_of steps ≡ texts_of steps

-- the same for a write of these bytes that failed, after a prefix of them that isn't all
pub record AddsPart (old new : Option (List Step)) (bytes : List ℕ) : Type 0 where
  pub count : ℕ
  pub part : count < length bytes
  pub added : Adds old new (Broke (take count bytes) ∷ [])

-- How the bytes of a line pass through a buffer.
use Rattle.std.specs.Prelude.{◌≡◌, ◌⊎◌, ℕ, ◌<◌, ◌+◌, ◌*◌, ◌≤◌, Bool, true, false, List, [], ◌++◌, length, Option, MatchBool}
use Rattle.std.specs.Io.KnownBytes.{Appends, Consumes, IsAtEnd}
use Rattle.hub_io.specs.declared.reading.TheConstants.{CHUNK}
pub use Rattle.hub_io.specs.Lines.{has_lf, IsLine}
use Rattle.hub_io.specs.Telling.{Rises}
use Rattle.hub_io.specs.declared.fault.FrontError.{FrontError}
use Rattle.hub_io.specs.declared.fault.FrontError.TheVariants.{Read, Write, Turns, Memory}
use Rattle.hub_client.specs.declared.buffer.Came.{Came}
use Rattle.hub_client.specs.declared.buffer.Came.TheVariants.{Lf, Bytes, End}
use Rattle.hub_client.specs.declared.passing.Passed.{Passed}
use Rattle.hub_client.specs.declared.passing.Passed.TheVariants.{Line, Part, Nothing}

-- Reads were made, and bytes left the buffer. had is what the reader had left before, and has what it has left after.
-- made and makes are how often it was called before and after. before and after are what was pending then. left and
-- left' are the reads that might still be made. Each read gave at least one byte, except slack of them.
pub record Moves (had has : Option (List ℕ)) (made makes : Option ℕ) (before after : List ℕ) (left left' slack : ℕ)
    (passed : List ℕ) : Type 0 where
  pub bytes : List ℕ
  pub reads : ℕ
  pub consumed : Consumes had has bytes
  pub kept : before ++ bytes ≡ passed ++ after
  pub spent : left' + reads ≡ left
  pub told : Rises made makes reads
  pub most : length bytes ≤ reads * CHUNK
  pub least : reads ≤ length bytes + slack

-- A part of a line on its way: it passed and was written, and has no LF.
pub record IsPassing (had has held holds : Option (List ℕ)) (made makes : Option ℕ) (before after : List ℕ) (left left' : ℕ)
    (passed : List ℕ) : Type 0 where
  pub moved : Moves had has made makes before after left left' 0 passed
  pub written : Appends held holds passed
  pub cut : has_lf passed ≡ false

-- A line on its way: a prefix of it passed. some says whether the prefix has a byte.
pub record IsOnItsWay (had has held holds : Option (List ℕ)) (made makes : Option ℕ) (before after : List ℕ) (left left' : ℕ)
    (some : Bool) : Type 0 where
  pub passed : List ℕ
  pub way : IsPassing had has held holds made makes before after left left' passed
  pub begun : MatchBool some (1 ≤ length passed) (passed ≡ [])

-- the reads that may have given no byte, up to the end of a line or of the stream
abbrev pub slack_of : Passed → ℕ
slack_of Line = 0
slack_of Part = 1
slack_of Nothing = 1

-- the reads that may have given no byte before a fault
abbrev pub slack_at : FrontError → ℕ
slack_at Turns = 0
slack_at Memory = 0
slack_at fault = 1

-- what was passed on, up to the end of a line or of the stream, and what is pending afterwards
abbrev pub EndsAs : Passed → (passed after : List ℕ) → (has : Option (List ℕ)) → Type 0
EndsAs Line passed after has = IsLine passed
EndsAs Part passed after has = (1 ≤ length passed) × (has_lf passed ≡ false) × (after ≡ []) × IsAtEnd has
EndsAs Nothing passed after has = (passed ≡ []) × (after ≡ []) × IsAtEnd has

-- what was still to be passed on at a fault
abbrev pub FailsAs : FrontError → (rest : List ℕ) → (left' : ℕ) → Type 0
FailsAs Read rest left' = rest ≡ []
FailsAs Write rest left' = 1 ≤ length rest
FailsAs Turns rest left' = (rest ≡ []) × (left' ≡ 0)
FailsAs Memory rest left' = ⊥

-- what a read gave
abbrev pub ComesAs : Came → List ℕ → Type 0
ComesAs Lf bytes = has_lf bytes ≡ true
ComesAs Bytes bytes = (1 ≤ length bytes) × (has_lf bytes ≡ false)
ComesAs End bytes = bytes ≡ []

-- the reads that may have given no byte
abbrev pub slack_when : Came → ℕ
slack_when Lf = 0
slack_when Bytes = 0
slack_when End = 1

-- if the stream ended, nothing is left of it
abbrev pub EndsWhen : Came → (has : Option (List ℕ)) → Type 0
EndsWhen Lf has = Unit {0}
EndsWhen Bytes has = Unit {0}
EndsWhen End has = IsAtEnd has

-- the pending part of a reply may be written: it has an LF, or it fills the buffer
abbrev pub IsReady : List ℕ → Type 0
IsReady pending = (has_lf pending ≡ true) ⊎ (length pending ≡ CHUNK)

-- the pending part of a reply is withheld
abbrev pub IsShort : List ℕ → Type 0
IsShort pending = (has_lf pending ≡ false) × (length pending < CHUNK)

-- A reply on its way: the buffers that it filled passed.
pub record IsInPieces (had has held holds : Option (List ℕ)) (made makes : Option ℕ) (before after : List ℕ) (left left' : ℕ) : Type 0 where
  pub passed : List ℕ
  pub way : IsPassing had has held holds made makes before after left left' passed
  pub buffers : ℕ
  pub full : length passed ≡ buffers * CHUNK

-- how a reply fails to pass: rest was read and not written, and due is the part of rest that may be written
abbrev pub FailsInPieces : FrontError → (due rest : List ℕ) → (left' : ℕ) → Type 0
FailsInPieces Read due rest left' = (due ≡ []) × (has_lf rest ≡ false)
FailsInPieces Write due rest left' = 1 ≤ length due
FailsInPieces Turns due rest left' = (due ≡ []) × (has_lf rest ≡ false) × (left' ≡ 0)
FailsInPieces Memory due rest left' = ⊥

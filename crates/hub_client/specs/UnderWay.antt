-- A relay on its way.
use Rattle.std.specs.Prelude.{◌≡◌, ℕ, ◌+◌, ◌*◌, ◌≤◌, List, [], ◌∷◌, ◌++◌, length, false, Option}
use Rattle.std.specs.Io.KnownBytes.{Appends, Consumes, IsAtEnd}
use Rattle.hub_io.specs.declared.reading.TheConstants.{CHUNK, MAX_READS}
use Rattle.hub_io.specs.Telling.{Rises}
use Rattle.hub_client.specs.declared.fault.RelayError.{RelayError}
use Rattle.hub_client.specs.declared.fault.RelayError.TheVariants.{Input, Output, Send, Receive, Ended, Turns, Memory}
use Rattle.hub_client.specs.declared.passing.Passed.{Passed}
use Rattle.hub_client.specs.declared.passing.Passed.TheVariants.{Line, Part, Nothing}
use Rattle.hub_io.specs.Lines.{has_lf, lines_of}
use Rattle.hub_client.specs.Relaying.{ended_lines}

-- what is sent of a line; a last part gets an LF
abbrev pub sent_of : Passed → List ℕ → List ℕ
sent_of Line passed = passed
sent_of Part passed = passed ++ 10 ∷ []
sent_of Nothing passed = passed

-- the reads that may have given no byte before an error
abbrev pub slack_for : RelayError → ℕ
slack_for Turns = 0
slack_for Memory = 0
slack_for error = 1

-- how the sending of a line fails: passed was sent, and rest was read and not sent
abbrev pub FailsToSend : RelayError → (passed rest : List ℕ) → (left' : ℕ) → Type 0
FailsToSend Input passed rest left' = rest ≡ []
FailsToSend Output passed rest left' = ⊥
FailsToSend Send passed rest left' = 1 ≤ length (passed ++ rest)
FailsToSend Receive passed rest left' = ⊥
FailsToSend Ended passed rest left' = ⊥
FailsToSend Turns passed rest left' = (rest ≡ []) × (left' ≡ 0)
FailsToSend Memory passed rest left' = ⊥

-- how the receiving of a reply fails: rest was read and not written, and due is the part of rest that may be written
abbrev pub FailsToReceive : RelayError → (due rest : List ℕ) → (has : Option (List ℕ)) → (left' : ℕ) → Type 0
FailsToReceive Input due rest has left' = ⊥
FailsToReceive Output due rest has left' = 1 ≤ length due
FailsToReceive Send due rest has left' = ⊥
FailsToReceive Receive due rest has left' = (due ≡ []) × (has_lf rest ≡ false)
FailsToReceive Ended due rest has left' = (due ≡ []) × (has_lf rest ≡ false) × IsAtEnd has
FailsToReceive Turns due rest has left' = (due ≡ []) × (has_lf rest ≡ false) × (left' ≡ 0)
FailsToReceive Memory due rest has left' = ⊥

-- none of the lines has an LF
abbrev pub AreCut : List (List ℕ) → Type 0
AreCut [] = Unit {0}
AreCut (line ∷ lines) = (has_lf line ≡ false) × AreCut lines

-- One direction after some turns: count lines passed, each with its LF, and pending is what was read beyond them.
pub record HasPassed (had has held holds : Option (List ℕ)) (made makes : Option ℕ) (pending : List ℕ) (count reads : ℕ) : Type 0 where
  pub lines : List (List ℕ)
  pub cut : AreCut lines
  pub counted : length lines ≡ count
  pub consumed : Consumes had has (ended_lines lines ++ pending)
  pub appended : Appends held holds (ended_lines lines)
  pub told : Rises made makes reads
  pub least : reads ≤ length (ended_lines lines ++ pending)

-- The lines before a reply: count of them were sent, with an LF each, and more are the lines of the other bytes that
-- were read.
pub record HasSent (had has held holds : Option (List ℕ)) (made makes : Option ℕ) (more : List (List ℕ)) (count reads : ℕ) : Type 0 where
  pub input : List ℕ
  pub lines : List (List ℕ)
  pub cut : AreCut lines
  pub counted : length lines ≡ count
  pub consumed : Consumes had has input
  pub appended : Appends held holds (ended_lines lines)
  pub split : lines_of input ≡ lines ++ more
  pub told : Rises made makes reads
  pub least : reads ≤ length input + 1

-- A relay between two turns: as many replies were written as lines were sent.
pub record IsUnderWay (had has held holds had' has' held' holds' : Option (List ℕ)) (made makes made' makes' : Option ℕ)
    (pending pending' : List ℕ) (count left : ℕ) : Type 0 where
  pub reads : ℕ
  pub reads' : ℕ
  pub asked : HasPassed had has held holds made makes pending count reads
  pub answered : HasPassed had' has' held' holds' made' makes' pending' count reads'
  pub spent : reads + reads' + left ≡ MAX_READS
  pub few : count + length pending + left * CHUNK ≤ MAX_READS * CHUNK

-- What a relay sends and writes.
use Rattle.std.specs.Prelude.{◌≡◌, ◌⊎◌, ℕ, suc, ◌+◌, ◌*◌, ◌/◌, ◌<◌, ◌≤◌, List, [], ◌∷◌, ◌++◌, length, take, flat_map, Option, Result, Err}
use Rattle.std.specs.Io.KnownBytes.{Appends, Consumes, IsAtEnd}
use Rattle.hub_io.specs.declared.reading.TheConstants.{CHUNK, MAX_READS}
use Rattle.hub_io.specs.Lines.{complete_of, rest_of, lines_of}
use Rattle.hub_io.specs.Telling.{Rises}
use Rattle.hub_client.specs.declared.fault.RelayError.{RelayError}
use Rattle.hub_client.specs.declared.fault.RelayError.TheVariants.{Input, Output, Send, Receive, Ended, Turns, Memory}

-- the lines, each with its LF
abbrev pub ended_lines : List (List ℕ) → List ℕ
ended_lines lines = flat_map (λ line. line ++ 10 ∷ []) lines

-- how many lines end within the bytes
abbrev pub line_count : List ℕ → ℕ
line_count bytes = length (complete_of bytes)

-- the bytes of an unfinished reply that filled whole buffers; none if it is shorter than a buffer
abbrev pub full_buffers : List ℕ → List ℕ
full_buffers part = take (length part / CHUNK * CHUNK) part

-- the part of the peer's bytes that may be written: each whole reply with its LF, and the full buffers of an unfinished
-- one
abbrev pub writable : List ℕ → List ℕ
writable heard = ended_lines (complete_of heard) ++ full_buffers (rest_of heard)

-- Bytes were read, and bytes were written. had is what the reader had left before, and has what it has left after. held
-- is what the writer had before, and holds what it has after.
pub record Passes (had has held holds : Option (List ℕ)) (read written : List ℕ) : Type 0 where
  pub consumed : Consumes had has read
  pub appended : Appends held holds written

-- A relay that ended with its input: each of its n lines was sent with an LF, and the first n lines of the peer were
-- written. The first four are those of the input and the writer to the peer, the others those of the peer's stream and
-- the output.
pub record Finished (had has held holds had' has' held' holds' : Option (List ℕ)) (n : ℕ) : Type 0 where
  pub input : List ℕ
  pub heard : List ℕ
  pub sent : Passes had has held holds input (ended_lines (lines_of input))
  pub whole : IsAtEnd has
  pub counted : n ≡ length (lines_of input)
  pub answered : n ≤ line_count heard
  pub written : Passes had' has' held' holds' heard (ended_lines (take n (complete_of heard)))

-- each line that was sent whole was answered, and nothing else was written
pub record AreAnswered (sent heard written : List ℕ) : Type 0 where
  pub enough : line_count sent ≤ line_count heard
  pub replies : written ≡ ended_lines (take (line_count sent) (complete_of heard))

-- The last line was sent whole, and the LF of its reply is missing. All that may be written was written. If the
-- unfinished reply is shorter than a buffer, that is the replies before it, and nothing of it.
pub record AwaitsReply (sent heard written : List ℕ) : Type 0 where
  pub passed : written ≡ writable heard
  pub withheld : length (rest_of heard) < CHUNK → written ≡ ended_lines (complete_of heard)
  pub missing : line_count sent ≡ suc (line_count heard)

-- What a relay did before it stopped. input and heard are what was read of the input and of the peer, and sent and
-- written what was sent and written. Each read gave at least one byte, except the one that found the end of the input.
abbrev pub StopsAt : (input sent heard written : List ℕ) → (has' : Option (List ℕ)) → RelayError → Type 0
StopsAt input sent heard written has' Input = (sent ≡ input) × AreAnswered sent heard written
StopsAt input sent heard written has' Send = (length sent < length (ended_lines (lines_of input))) × AreAnswered sent heard written
StopsAt input sent heard written has' Receive = AwaitsReply sent heard written
StopsAt input sent heard written has' Ended = AwaitsReply sent heard written × IsAtEnd has'
StopsAt input sent heard written has' Output = (length written < length (writable heard)) × (line_count sent ≡ suc (line_count written))
StopsAt input sent heard written has' Turns =
    (MAX_READS ≤ length input + length heard + 1) × (((sent ≡ input) × AreAnswered sent heard written) ⊎ AwaitsReply sent heard written)
StopsAt input sent heard written has' Memory = (input ≡ []) × (heard ≡ [])

-- A relay that stopped: a prefix of the input's lines was sent. What was written is a prefix of the peer's bytes, and
-- of what may be written of them. due is the part that may be written and wasn't.
pub record Stopped (had has held holds had' has' held' holds' : Option (List ℕ)) (e : RelayError) : Type 0 where
  pub input : List ℕ
  pub sent : List ℕ
  pub unsent : List ℕ
  pub lines : Passes had has held holds input sent
  pub sent_front : ended_lines (lines_of input) ≡ sent ++ unsent
  pub heard : List ℕ
  pub written : List ℕ
  pub unwritten : List ℕ
  pub replies : Passes had' has' held' holds' heard written
  pub written_front : heard ≡ written ++ unwritten
  pub due : List ℕ
  pub writable_front : writable heard ≡ written ++ due
  pub stopped : StopsAt input sent heard written has' e

-- At most MAX_READS reads were made, of both readers together, and exactly that many at Turns. made and makes are the
-- counts of one reader before and after, made' and makes' those of the other.
abbrev pub ReadsWithin : {T : Type 0} → (made makes made' makes' : Option ℕ) → Result T RelayError → Type 0
ReadsWithin made makes made' makes' result =
    (n m : ℕ) × (n + m ≤ MAX_READS) × Rises made makes n × Rises made' makes' m × (result ≡ Err Turns → n + m ≡ MAX_READS)

-- What a session answers and writes.
use Rattle.std.specs.Prelude.{◌≡◌, ◌⊎◌, ℕ, ◌≤◌, List, [], ◌∷◌, ◌++◌, length, flat_map, Option, Result, Ok, Err}
use Rattle.std.specs.Io.KnownBytes.{Appends, Consumes, IsAtEnd}
use Rattle.hub_requests.specs.declared.request.Request.{Request}
use Rattle.hub_requests.specs.declared.reply.Reply.{Reply}
use Rattle.hub_requests.specs.declared.reply.Reply.TheVariants.{No}
use Rattle.hub_requests.specs.Texts.{text_of}
use Rattle.hub_requests.specs.declared.reply.Refusal.{Refusal}
use Rattle.hub_io.specs.declared.fault.FrontError.{FrontError}
use Rattle.hub_io.specs.declared.fault.FrontError.TheVariants as fault
use Rattle.hub_io.specs.declared.fault.FrontError.TheVariants.{Read, Write, Turns}
use Rattle.hub_protocol.specs.Reading.{IsReading}
use Rattle.hub_front.specs.declared.stay.Stay.{Stay}
use Rattle.hub_front.specs.declared.stay.Stay.TheVariants.{Short, Long}
use Rattle.hub_front.specs.declared.stay.TheConstants.{MANY_READS, SMALL_CHUNK}
use Rattle.hub_io.specs.declared.reading.TheConstants.{CHUNK, MAX_READS}
use Rattle.hub_io.specs.Lines.{complete_of, lines_of}
use Rattle.hub_io.specs.Faults.{AppendsPart}
use Rattle.hub_io.specs.Telling.{Rises}

-- how a desk answers: the desk before, the request, the reply, the desk after
abbrev pub Asking : Type 0 → Type 1
Asking D = D → Request → Reply → D → Type 0

-- A request is answered by the desk. A line that isn't a request is refused, and the desk stays as it is.
abbrev pub AnswersRead : {D : Type 0} → Asking D → D → Result Request Refusal → Reply → D → Type 0
AnswersRead asks old (Ok request) reply new = asks old request reply new
AnswersRead asks old (Err refusal) reply new = (reply ≡ No refusal) × (new ≡ old)

-- a line is answered by what it is read as
pub record AnswersLine {D : Type 0} (asks : Asking D) (old : D) (line : List ℕ) (reply : Reply) (new : D) : Type 0 where
  pub read : Result Request Refusal
  pub reading : IsReading line read
  pub answered : AnswersRead asks old read reply new

-- the lines are given these replies, one after another
abbrev pub Run : {D : Type 0} → Asking D → D → List (List ℕ) → List Reply → D → Type 0
Run asks old [] [] new = new ≡ old
Run {D} asks old (line ∷ lines) (reply ∷ replies) new =
    (mid : D) × AnswersLine asks old line reply mid × Run asks mid lines replies new
Run asks old [] (reply ∷ replies) new = ⊥
Run asks old (line ∷ lines) [] new = ⊥

-- The lines were answered, and the texts of the replies were written, in order. held is what the writer had before, and
-- holds what it has after.
pub record Served {D : Type 0} (asks : Asking D) (old : D) (lines : List (List ℕ))
    (held holds : Option (List ℕ)) (new : D) : Type 0 where
  pub replies : List Reply
  pub run : Run asks old lines replies new
  pub written : Appends held holds (flat_map text_of replies)

-- Some of the lines were served, and the next one was answered, but its reply wasn't written whole.
pub record BreaksOff {D : Type 0} (asks : Asking D) (old : D) (lines : List (List ℕ))
    (held holds : Option (List ℕ)) (new : D) : Type 0 where
  pub front : List (List ℕ)
  pub line : List ℕ
  pub after : List (List ℕ)
  pub among : lines ≡ front ++ line ∷ after
  pub mid : D
  pub between : Option (List ℕ)
  pub served : Served asks old front held between mid
  pub reply : Reply
  pub answered : AnswersLine asks mid line reply new
  pub written : AppendsPart between holds (text_of reply)

-- the lines that are due after the input was read: the complete ones, and also the last piece if nothing is left to
-- read
abbrev pub AreDue : List ℕ → (has : Option (List ℕ)) → List (List ℕ) → Type 0
AreDue input has lines = (lines ≡ complete_of input) ⊎ (IsAtEnd has × (lines ≡ lines_of input))

-- A session that ended with its input: each of its n lines was answered, and the texts of the replies were written, in
-- order. had is what the reader had left before, and has what it has left after.
pub record Finished {D : Type 0} (asks : Asking D) (ends : D → D → Type 0) (old new : D)
    (held holds had has : Option (List ℕ)) (n : ℕ) : Type 0 where
  pub input : List ℕ
  pub consumed : Consumes had has input
  pub whole : IsAtEnd has
  pub counted : n ≡ length (lines_of input)
  pub mid : D
  pub served : Served asks old (lines_of input) held holds mid
  pub ended : ends mid new

-- the most reads of a session that may stay so long
abbrev pub most_reads : Stay → ℕ
most_reads Short = MAX_READS
most_reads Long = MANY_READS

-- how many bytes one read asks for in a session that may stay so long
abbrev pub chunk_of : Stay → ℕ
chunk_of Short = CHUNK
chunk_of Long = SMALL_CHUNK

-- What a session that may make `most` reads did before it stopped; input is what was read. After a fault of the reader,
-- and after the last read that it may make, each complete line was served. Each read gave at least one byte.
abbrev pub StopsAt : {D : Type 0} → (most : ℕ) → Asking D → D → List ℕ → (held holds has : Option (List ℕ)) → D → FrontError → Type 0
StopsAt most asks old input held holds has mid Read = Served asks old (complete_of input) held holds mid
StopsAt most asks old input held holds has mid Turns =
    Served asks old (complete_of input) held holds mid × (most ≤ length input)
StopsAt most asks old input held holds has mid Write =
    (lines : List (List ℕ)) × AreDue input has lines × BreaksOff asks old lines held holds mid
StopsAt most asks old input held holds has mid fault.Memory = (input ≡ []) × Served asks old [] held holds mid

-- A session that might make `most` reads and stopped, and then ended its desk.
pub record Stopped {D : Type 0} (most : ℕ) (asks : Asking D) (ends : D → D → Type 0) (old new : D)
    (held holds had has : Option (List ℕ)) (e : FrontError) : Type 0 where
  pub input : List ℕ
  pub consumed : Consumes had has input
  pub mid : D
  pub stopped : StopsAt most asks old input held holds has mid e
  pub ended : ends mid new

-- At most `most` reads were made, and exactly that many at Turns. made and makes are the counts before and after.
abbrev pub ReadsWithin : {T : Type 0} → (most : ℕ) → (made makes : Option ℕ) → Result T FrontError → Type 0
ReadsWithin most made makes result = (n : ℕ) × (n ≤ most) × Rises made makes n × (result ≡ Err Turns → n ≡ most)

-- What a local session writes: the texts of a new desk's answers to the requests, with the refusals in the places of
-- their lines. Beside the input, it is given for each text of a `listen` whether it is a pattern.
use Rattle.std.specs.Prelude.{◌≡◌, ◌≢◌, ℕ, Bool, List, All, length, flat_map, Option, Result, Err}
use Rattle.std.specs.List.{AllZip}
use Rattle.std.specs.Io.KnownBytes.{Consumes, IsAtEnd}
use Rattle.hub_local.specs.RunAnswers.{answers, patterns_in, AreReads}
use Rattle.hub_local.specs.Desks.{new_desk}
use Rattle.hub_local.specs.Representing.{Local, RepresentsDesk, AsksDesk}
use Rattle.hub_requests.specs.Texts.{text_of}
use Rattle.hub_requests.specs.declared.reply.Reply.{Reply}
use Rattle.hub_requests.specs.declared.request.Request.{Request}
use Rattle.hub_io.specs.Lines.{lines_of}
use Rattle.hub_io.specs.declared.fault.FrontError.{FrontError}
use Rattle.hub_io.specs.declared.reading.TheConstants.{MAX_READS}
use Rattle.hub_front.specs.Places.{NoneIsMemory, in_place, requests_of}
use Rattle.hub_front.specs.Serving.{Served, StopsAt}
use Rattle.hub_protocol.specs.Reading.{IsReading}
use Rattle.hub_requests.specs.declared.reply.Refusal.{Refusal}
use Rattle.hub_requests.specs.declared.reply.Refusal.TheVariants.{Memory}

-- the replies to these lines, with enough memory; `patterns` says for each text of a `listen` whether it is a pattern
pub record AreReplies (patterns : List Bool) (lines : List (List ℕ)) (replies : List Reply) : Type 0 where
  pub reads : List (Result Request Refusal)
  pub readings : AllZip IsReading lines reads
  pub enough : All (λ read. read ≢ Err Memory) reads
  pub are_patterns : AreReads patterns (patterns_in (requests_of reads))
  pub placed : replies ≡ in_place reads (answers new_desk patterns (requests_of reads))

-- the output of an input
pub record IsOutput (patterns : List Bool) (input output : List ℕ) : Type 0 where
  pub replies : List Reply
  pub answered : AreReplies patterns (lines_of input) replies
  pub texts : output ≡ flat_map text_of replies

-- What a session over a new desk did that ended with its input: each of its n lines was answered by the desk as the
-- lines before it left the desk, and the texts of the replies were written, in order. If no reply is `no memory`, they are
-- the output of the input. had is what the reader had left before, and has what it has left after. held is what the
-- writer had before, and holds what it has after.
pub record Serves (held holds had has : Option (List ℕ)) (n : ℕ) : Type 0 where
  pub input : List ℕ
  pub consumed : Consumes had has input
  pub whole : IsAtEnd has
  pub counted : n ≡ length (lines_of input)
  pub desk : Local
  pub is_new : RepresentsDesk desk new_desk
  pub left : Local
  pub served : Served AsksDesk desk (lines_of input) held holds left
  pub each : length served.replies ≡ n
  pub output : NoneIsMemory served.replies → (patterns : List Bool) × IsOutput patterns input (flat_map text_of served.replies)

-- What a session over a new desk did before it stopped with an error.
pub record Stops (held holds had has : Option (List ℕ)) (e : FrontError) : Type 0 where
  pub input : List ℕ
  pub consumed : Consumes had has input
  pub desk : Local
  pub is_new : RepresentsDesk desk new_desk
  pub left : Local
  pub stopped : StopsAt MAX_READS AsksDesk desk input held holds has left e

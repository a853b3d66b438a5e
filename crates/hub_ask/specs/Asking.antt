-- One request, and its reply.
use Rattle.std.specs.Prelude.{◌≡◌, ◌⊎◌, ℕ, List, [], ◌∷◌, ◌++◌, Bool, true, false, Option, None, Some}
use Rattle.std.specs.Io.KnownBytes.{Appends, Consumes}
use Rattle.hub_client.specs.Passing.{IsLine, has_lf}
use Rattle.hub_client.specs.Relaying.{ended_lines}
use Rattle.hub_client.specs.declared.fault.RelayError.TheVariants as relay
use Rattle.hub_io.specs.Faults.{AppendsPart}
use Rattle.hub_io.specs.Lines.{lines_of}
use Rattle.hub_ask.specs.declared.outcome.Outcome.{Outcome}
use Rattle.hub_ask.specs.declared.fault.AskError.{AskError}
use Rattle.hub_ask.specs.declared.fault.AskError.TheVariants.{Relay, Unknown, Words}
use Rattle.hub_ask.specs.declared.heard.Heard.{Heard}
use Rattle.hub_ask.specs.Hearing.{line_of}
use Rattle.hub_ask.specs.Telling.{IsNoReply}

-- The line was sent with an LF, and then a reply came: one line, which is the first of what was read. sent and sends are what was sent
-- to the peer before and after, had and has what was left of the peer's stream.
pub record IsAnswered (sent sends had has : Option (List ℕ)) (line reply : List ℕ) : Type 0 where
  pub asked : Appends sent sends (line ++ 10 ∷ [])
  pub heard : List ℕ
  pub received : Consumes had has heard
  pub more : List ℕ
  pub first : heard ≡ reply ++ more
  pub whole : IsLine reply

-- No whole reply came. A front of the line was taken, and with an LF at its end at most that was sent.
pub record IsBrokenOff (sent sends had has : Option (List ℕ)) (line : List ℕ) : Type 0 where
  pub front : List ℕ
  pub back : List ℕ
  pub of_line : line ++ 10 ∷ [] ≡ front ++ back
  pub went : List ℕ
  pub unsent : List ℕ
  pub prefix : ended_lines (lines_of front) ≡ went ++ unsent
  pub asked : Appends sent sends went
  pub heard : List ℕ
  pub received : Consumes had has heard

-- The line was sent, and the line that came is the one of this reply, or is that of no reply of a hub.
abbrev pub Hears : (sent sends had has : Option (List ℕ)) (line : List ℕ) → Option Heard → Type 0
Hears sent sends had has line (Some heard) = IsAnswered sent sends had has line (line_of heard)
Hears sent sends had has line None = (text : List ℕ) × IsAnswered sent sends had has line text × IsNoReply text

-- An exchange of the line broke off, after which a client is broken, or it didn't begin.
pub record BreaksOff (sent sends had has : Option (List ℕ)) (line : List ℕ) (broken : Bool) : Type 0 where
  pub off : IsBrokenOff sent sends had has line
  pub untouched : broken ≡ false → (sends ≡ sent) × (has ≡ had)

-- How no whole line came. Words is for a request that is several lines, of which nothing is sent.
abbrev pub FailsToHear : (sent sends had has : Option (List ℕ)) (line : List ℕ) (broken : Bool) → AskError → Type 0
FailsToHear sent sends had has line broken (Relay relay.Output) = ⊥
FailsToHear sent sends had has line broken (Relay relay.Input) = ⊥
FailsToHear sent sends had has line broken Words = (has_lf line ≡ true) × (sends ≡ sent) × (has ≡ had)
FailsToHear sent sends had has line broken error = BreaksOff sent sends had has line broken

-- How no reply of a hub came.
abbrev pub FailsToAsk : (sent sends had has : Option (List ℕ)) (line : List ℕ) (broken : Bool) → AskError → Type 0
FailsToAsk sent sends had has line broken Unknown =
    (Hears sent sends had has line None × (broken ≡ false)) ⊎ BreaksOff sent sends had has line broken
FailsToAsk sent sends had has line broken error = FailsToHear sent sends had has line broken error

-- the reply came and was written
pub record IsWritten (sent sends had has held holds : Option (List ℕ)) (line reply : List ℕ) : Type 0 where
  pub answered : IsAnswered sent sends had has line reply
  pub written : Appends held holds reply

-- the reply came and was written, and by these words of replies it tells the outcome
pub record HasReply (tells : List ℕ → Option Outcome → Type 0) (sent sends had has held holds : Option (List ℕ)) (line : List ℕ) (outcome : Outcome) : Type 0 where
  pub reply : List ℕ
  pub written : IsWritten sent sends had has held holds line reply
  pub told : tells reply (Some outcome)

-- The reply came, and only a prefix of it was written.
pub record IsCut (sent sends had has held holds : Option (List ℕ)) (line : List ℕ) : Type 0 where
  pub reply : List ℕ
  pub answered : IsAnswered sent sends had has line reply
  pub written : AppendsPart held holds reply

-- the reply came and was written, and by these words of replies it tells no outcome
pub record IsUnknown (tells : List ℕ → Option Outcome → Type 0) (sent sends had has held holds : Option (List ℕ)) (line : List ℕ) : Type 0 where
  pub reply : List ℕ
  pub written : IsWritten sent sends had has held holds line reply
  pub told : tells reply None

-- What was sent and written at an error, if no reply was written whole: Unknown is that of a reply that is too long.
abbrev pub HasNoLine : (sent sends had has held holds : Option (List ℕ)) (line : List ℕ) → AskError → Type 0
HasNoLine sent sends had has held holds line (Relay relay.Output) = IsCut sent sends had has held holds line
HasNoLine sent sends had has held holds line (Relay relay.Input) = ⊥
HasNoLine sent sends had has held holds line Words = ⊥
HasNoLine sent sends had has held holds line error = IsBrokenOff sent sends had has line × (holds ≡ held)

-- What was sent and written at an error.
abbrev pub HasNoReply : (tells : List ℕ → Option Outcome → Type 0) → (sent sends had has held holds : Option (List ℕ)) (line : List ℕ) → AskError → Type 0
HasNoReply tells sent sends had has held holds line Unknown = IsUnknown tells sent sends had has held holds line ⊎ HasNoLine sent sends had has held holds line Unknown
HasNoReply tells sent sends had has held holds line error = HasNoLine sent sends had has held holds line error

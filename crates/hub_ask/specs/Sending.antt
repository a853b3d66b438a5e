-- Requests that were sent, one after another.
use Rattle.std.specs.Prelude.{◌≡◌, ◌⊎◌, ℕ, List, [], ◌∷◌, ◌++◌, flat_map, Option}
use Rattle.std.specs.Io.KnownBytes.{Appends}
use Rattle.hub_client.specs.Relaying.{ended_lines}
use Rattle.hub_io.specs.Lines.{lines_of}
use Rattle.hub_requests.specs.declared.request.Request.{Request}
use Rattle.hub_protocol.specs.Writing.{line_of_request}

-- the lines of these requests
abbrev pub lines_of_requests : List Request → List ℕ
lines_of_requests requests = flat_map line_of_request requests

-- A front of this line was taken, and with an LF at its end at most that was sent.
pub record SendsPart (sent sends : Option (List ℕ)) (line : List ℕ) : Type 0 where
  pub front : List ℕ
  pub back : List ℕ
  pub of_line : line ≡ front ++ back
  pub went : List ℕ
  pub unsent : List ℕ
  pub prefix : ended_lines (lines_of front) ≡ went ++ unsent
  pub asked : Appends sent sends went

-- These requests were sent: each whole, but the last one perhaps only in part.
pub record AreSent (sent sends : Option (List ℕ)) (requests : List Request) : Type 0 where
  pub whole : List Request
  pub between : Option (List ℕ)
  pub asked : Appends sent between (lines_of_requests whole)
  pub last : ((requests ≡ whole) × (sends ≡ between))
      ⊎ ((request : Request) × (requests ≡ whole ++ request ∷ []) × SendsPart between sends (line_of_request request))

-- The first ones of these requests were sent, or all of them.
pub record SendsFront (sent sends : Option (List ℕ)) (requests : List Request) : Type 0 where
  pub first : List Request
  pub others : List Request
  pub cut : requests ≡ first ++ others
  pub went : AreSent sent sends first

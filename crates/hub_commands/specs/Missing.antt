-- The names of a hub.
use Rattle.std.specs.Prelude.{◌≢◌, ℕ, List, map, All, Option}
use Rattle.hub_ask.specs.Sending.{SendsFront}
use Rattle.hub_protocol.specs.Spelling.{fields_of}
use Rattle.hub_requests.specs.declared.request.Request.TheVariants as request

-- The names from some places on were asked for, one after another, and nothing else was sent; of the last line perhaps a part.
abbrev pub AsksNames : (sent sends : Option (List ℕ)) → Type 0
AsksNames sent sends = (places : List ℕ) × SendsFront sent sends (map request.Names places)

-- the name is none of these, which have one space between two
abbrev pub IsMissing : (there name : List ℕ) → Type 0
IsMissing there name = All (λ one. one ≢ name) (fields_of there)

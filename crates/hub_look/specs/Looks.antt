-- What is sent to a hub that is only looked at.
use Rattle.std.specs.Prelude.{◌≡◌, false, ℕ, List, All, Option}
use Rattle.std.specs.Io.KnownBytes.{Appends}
use Rattle.hub_client.specs.Passing.{has_lf}
use Rattle.hub_requests.specs.declared.request.Request.{Request}
use Rattle.hub_protocol.specs.Spelling.{form_of, spelling}
use Rattle.hub_ask.specs.Sending.{AreSent, lines_of_requests}
use Rattle.hub_look.specs.Looking.{IsLook}

-- a look that is one line
abbrev pub IsOneLook : Request → Type 0
IsOneLook request = IsLook request × (has_lf (spelling (form_of request)) ≡ false)

-- Whole requests were sent, and each is a look.
pub record AsksWhole (sent sends : Option (List ℕ)) : Type 0 where
  pub requests : List Request
  pub looks : All IsOneLook requests
  pub asked : Appends sent sends (lines_of_requests requests)

-- Looks were sent: each whole, but the last one perhaps only in part.
pub record OnlyLooks (sent sends : Option (List ℕ)) : Type 0 where
  pub requests : List Request
  pub looks : All IsOneLook requests
  pub went : AreSent sent sends requests

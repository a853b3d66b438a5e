-- A desk over another one, which notes where publishers are refused as full.
use Rattle.std.specs.Prelude.{ℕ, Bool, ◌||◌, if◌then◌else◌, List, [], ◌∷◌, ◌++◌, length, nat_le, Option, None, Some}
use Rattle.std.specs.List.{list_any}
use Rattle.std.specs.Str.{bytes_eq}
use Rattle.hub_front.specs.Serving.{Asking}
use Rattle.hub_requests.specs.declared.bounds.TheConstants.{MOST_NAMES}
use Rattle.hub_requests.specs.declared.reply.Reply.{Reply}
use Rattle.hub_requests.specs.declared.reply.Reply.TheVariants.{No}
use Rattle.hub_requests.specs.declared.reply.Refusal.TheVariants.{Full}
use Rattle.hub_requests.specs.declared.request.Request.{Request}
use Rattle.hub_requests.specs.declared.request.Request.TheVariants.{Pub, Tell}
use Rattle.hub_serving.specs.declared.noting.Noting.{Noting}

-- the desk below
abbrev pub below : {D : Type 0} → Noting D → D
below desk = desk.below

-- it answers what the desk below answers, and leaves that desk as it does
abbrev pub AsksBelow : {D : Type 0} → Asking D → Asking (Noting D)
AsksBelow asks old request reply new = asks (below old) request reply (below new)

-- it ends as the desk below does
abbrev pub EndsBelow : {D : Type 0} → (D → D → Type 0) → Noting D → Noting D → Type 0
EndsBelow ends old new = ends (below old) (below new)

-- the name of the fifodir at which a request publishes, if it does
abbrev pub published_name : Request → Option (List ℕ)
published_name (Pub name letters) = Some name
published_name (Tell name state) = Some name
published_name request = None

-- the name of the fifodir at which the publisher was refused as full, if this reply says so
abbrev pub full_name : Request → Reply → Option (List ℕ)
full_name request (No Full) = published_name request
full_name request reply = None

-- whether a name is among those that are noted
abbrev pub is_noted : List (List ℕ) → List ℕ → Bool
is_noted names name = list_any (λ noted. bytes_eq noted name) names

-- the names with this one, unless it is there or they are as many as a hub has
abbrev pub with_noted : List (List ℕ) → List ℕ → List (List ℕ)
with_noted names name = if nat_le MOST_NAMES (length names) || is_noted names name then names else names ++ name ∷ []

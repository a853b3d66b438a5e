-- What a desk was asked by another one that stands before it.
use Rattle.std.specs.Prelude.{◌≡◌, List, [], ◌∷◌}
use Rattle.hub_requests.specs.declared.request.Request.{Request}
use Rattle.hub_requests.specs.declared.reply.Reply.{Reply}

-- how a desk answers: the desk before, the request, the reply, the desk after
abbrev pub Asking : Type 0 → Type 1
Asking D = D → Request → Reply → D → Type 0

-- a request, and what it was answered
pub record Asked : Type 0 where
  pub request : Request
  pub reply : Reply

-- a desk was asked these requests one after another, and nothing else was done to it
abbrev pub Run : {D : Type 0} → Asking D → D → List Asked → D → Type 0
Run asks old [] new = new ≡ old
Run {D} asks old (one ∷ rest) new = (mid : D) × asks old one.request one.reply mid × Run asks mid rest new

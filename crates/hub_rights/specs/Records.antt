-- What the requests of a session that only looks leave of records, in the model of a desk (`hub_local`).
use Rattle.std.specs.Prelude.{◌≡◌, ◌≤◌, ℕ, List, [], ◌∷◌, length, Bool, false, Option, None, Some, Ok}
use Rattle.hub_record.specs.World.{World, after_publish}
use Rattle.hub_record.specs.declared.limits.Policy.TheVariants.{Evict}
use Rattle.hub_local.specs.Desks.{Desk, world_of}
use Rattle.hub_local.specs.DeskAnswers.{answer}
use Rattle.hub_local.specs.Replies.{publish_reply}
use Rattle.hub_requests.specs.declared.request.Request.{Request}
use Rattle.hub_rights.specs.Looking.{changes, subscribed_at}

-- none of these messages has more letters
abbrev pub AreShort : ℕ → List (List ℕ) → Type 0
AreShort most [] = Unit {0}
AreShort most (message ∷ rest) = (length message ≤ most) × AreShort most rest

-- these messages are published one after another, and each is accepted
abbrev pub AreAccepted : World → List (List ℕ) → Type 0
AreAccepted w [] = Unit {0}
AreAccepted w (message ∷ rest) = (first : ℕ) × (publish_reply w message ≡ Ok first) × AreAccepted (after_publish w 1 message (Ok first)) rest

-- Nothing but the subscriptions has changed: no letter, no close mark. Messages that would all have been accepted, one after another, all
-- are now as well, unless one alone has more letters than may be pending.
pub record IsLookedAt (old new : World) : Type 0 where
  pub same : new ≡ record old { subscriptions = new.subscriptions }
  pub accepts : (messages : List (List ℕ)) → AreShort old.limits.waiting messages → AreAccepted old messages → AreAccepted new messages

abbrev pub IsLookedAtThere : Option World → Option World → Type 0
IsLookedAtThere None None = Unit {0}
IsLookedAtThere None (Some new) = ⊥
IsLookedAtThere (Some old) None = ⊥
IsLookedAtThere (Some old) (Some new) = IsLookedAt old new

-- a request that a session may be let ask that only looks: it changes nothing, and subscribes only where who is slow is evicted
pub record MayBeAsked (d : Desk) (request : Request) : Type 0 where
  pub changes_nothing : changes request ≡ false
  pub holds_nobody_up : (name : List ℕ) (w : World) → subscribed_at request ≡ Some name → world_of d.fifodirs name ≡ Some w → w.limits.policy ≡ Evict

-- whatever such a request is answered, each fifodir was only looked at
abbrev pub LooksLeaveRecords : Type 0
LooksLeaveRecords = (d : Desk) (read : Bool) (request : Request) (name : List ℕ) → MayBeAsked d request
    → IsLookedAtThere (world_of d.fifodirs name) (world_of (answer d read request).desk.fifodirs name)

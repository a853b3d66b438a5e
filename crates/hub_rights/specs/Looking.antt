-- What a session does that only looks.
use Rattle.std.specs.Prelude.{◌≡◌, ◌⊎◌, Bool, true, false, ℕ, List, [], ◌∷◌, Option, None, Some}
use Rattle.hub_record.specs.declared.limits.Policy.{Policy}
use Rattle.hub_record.specs.declared.limits.Policy.TheVariants.{Hold, Evict}
use Rattle.hub_requests.specs.declared.about.About as abouts
use Rattle.hub_requests.specs.declared.request.Request.{Request}
use Rattle.hub_requests.specs.declared.request.Request.TheVariants.{Dir, Svc, Sub, Pub, Tell, Will, Close, About, Listen}
use Rattle.hub_requests.specs.declared.reply.Reply.{Reply}
use Rattle.hub_requests.specs.declared.reply.Reply.TheVariants as said
use Rattle.hub_requests.specs.declared.reply.Reply.TheVariants.{No}
use Rattle.hub_requests.specs.declared.reply.Refusal.{Refusal}
use Rattle.hub_requests.specs.declared.reply.Refusal.TheVariants as no
use Rattle.hub_rights.specs.Asked.{Asking, Asked, Run}

-- ---- which requests only look

-- whether a request makes a fifodir, publishes, closes, or leaves a will
abbrev pub changes : Request → Bool
changes (Dir name waiting total evict) = true
changes (Svc name waiting total notifies evict) = true
changes (Pub name letters) = true
changes (Tell name state) = true
changes (Will name will) = true
changes (Close name) = true
changes request = false

-- the name of the fifodir at which a request subscribes
abbrev pub subscribed_at : Request → Option (List ℕ)
subscribed_at (Sub name) = Some name
subscribed_at (Listen name mode pattern) = Some name
subscribed_at request = None

-- ---- what the desk below is asked

-- it said that the fifodir of this name has this policy
pub record Says (name : List ℕ) (policy : Policy) (asked : Asked) : Type 0 where
  pub about : abouts.About
  pub request : asked.request ≡ About name
  pub reply : asked.reply ≡ said.About about
  pub policy_is : about.policy ≡ policy

abbrev pub SaidEvicts : List ℕ → Option Asked → Type 0
SaidEvicts name None = ⊥
SaidEvicts name (Some before) = Says name Evict before

-- a request that only looks, right after another one
pub record IsLook (before : Option Asked) (asked : Asked) : Type 0 where
  pub changes_nothing : changes asked.request ≡ false
  -- it subscribes only where it was just said that who is slow is evicted
  pub holds_nobody_up : (name : List ℕ) → subscribed_at asked.request ≡ Some name → SaidEvicts name before

abbrev pub AreLooksAfter : Option Asked → List Asked → Type 0
AreLooksAfter before [] = Unit {0}
AreLooksAfter before (asked ∷ rest) = IsLook before asked × AreLooksAfter (Some asked) rest

-- all that a desk was asked only looks
abbrev pub AreLooks : List Asked → Type 0
AreLooks asked = AreLooksAfter None asked

-- ---- what a session is replied

abbrev pub refusal_by_policy : Policy → Option Refusal
refusal_by_policy Evict = None
refusal_by_policy Hold = Some no.Right

-- why a session mayn't subscribe, by what the desk below says about the fifodir; none where it may
abbrev pub refusal_to_subscribe : Reply → Option Refusal
refusal_to_subscribe (said.About about) = refusal_by_policy about.policy
refusal_to_subscribe (No refusal) = Some refusal
refusal_to_subscribe reply = Some no.Right

-- ---- its requests

-- it may subscribe, since the desk below says so about the fifodir
abbrev pub MaySubscribe : {D : Type 0} → Asking D → D → List ℕ → D → Type 0
MaySubscribe asks old name new = (about : Reply) × asks old (About name) about new × (refusal_to_subscribe about ≡ None)

-- It mayn't, since the desk below says something else about the fifodir. Or there was no memory to ask, and nothing was asked.
abbrev pub MayNotSubscribe : {D : Type 0} → Asking D → D → List ℕ → D → Refusal → Type 0
MayNotSubscribe asks old name new refusal =
    ((about : Reply) × asks old (About name) about new × (refusal_to_subscribe about ≡ Some refusal))
    ⊎ ((refusal ≡ no.Memory) × (new ≡ old))

-- it is asked about the fifodir first, and the request only if the session may subscribe there
abbrev pub Subscribes : {D : Type 0} → Asking D → D → List ℕ → Request → Reply → D → Type 0
Subscribes {D} asks old name request reply new =
    ((refusal : Refusal) × MayNotSubscribe asks old name new refusal × (reply ≡ No refusal))
    ⊎ ((mid : D) × MaySubscribe asks old name mid × asks mid request reply new)

-- the desk below isn't asked
abbrev pub IsRefused : {D : Type 0} → D → Reply → D → Type 0
IsRefused old reply new = (reply ≡ No no.Right) × (new ≡ old)

-- What a request of a session that only looks leads to. Each that isn't refused, and doesn't subscribe, is asked as it is.
abbrev pub OnlyLooks : {D : Type 0} → Asking D → D → Request → Reply → D → Type 0
OnlyLooks asks old (Dir name waiting total evict) reply new = IsRefused old reply new
OnlyLooks asks old (Svc name waiting total notifies evict) reply new = IsRefused old reply new
OnlyLooks asks old (Pub name letters) reply new = IsRefused old reply new
OnlyLooks asks old (Tell name state) reply new = IsRefused old reply new
OnlyLooks asks old (Will name will) reply new = IsRefused old reply new
OnlyLooks asks old (Close name) reply new = IsRefused old reply new
OnlyLooks asks old (Sub name) reply new = Subscribes asks old name (Sub name) reply new
OnlyLooks asks old (Listen name mode pattern) reply new = Subscribes asks old name (Listen name mode pattern) reply new
OnlyLooks asks old request reply new = asks old request reply new

-- ---- laws

-- Whatever such a session asks for, the desk below is asked only what looks.
abbrev pub LooksAlone : {D : Type 0} → Asking D → Type 0
LooksAlone {D} asks = (old new : D) (asked : List Asked) → Run (OnlyLooks asks) old asked new
    → (below : List Asked) × Run asks old below new × AreLooks below

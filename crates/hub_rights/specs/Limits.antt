-- What a session is replied that may make only so many fifodirs.
use Rattle.std.specs.Prelude.{◌≡◌, ◌⊎◌, ◌+◌, ◌-◌, ℕ, zero, suc, List, [], ◌∷◌}
use Rattle.hub_requests.specs.declared.request.Request.{Request}
use Rattle.hub_requests.specs.declared.request.Request.TheVariants.{Dir, Svc, About}
use Rattle.hub_requests.specs.declared.reply.Reply.{Reply}
use Rattle.hub_requests.specs.declared.reply.Reply.TheVariants as said
use Rattle.hub_requests.specs.declared.reply.Reply.TheVariants.{Done, No}
use Rattle.hub_requests.specs.declared.reply.Refusal.{Refusal}
use Rattle.hub_requests.specs.declared.reply.Refusal.TheVariants as no
use Rattle.hub_rights.specs.declared.limited.Limited.{Limited}
use Rattle.hub_rights.specs.Asked.{Asking, Asked, Run}

-- ---- a session that has made as many as it may

-- a fifodir of a new name would be one too many
abbrev pub refusal_but_name : Refusal → Refusal
refusal_but_name no.Name = no.Many
refusal_but_name refusal = refusal

-- what it is replied, by what the desk below says about the fifodir
abbrev pub refusal_of_more : Reply → Reply
refusal_of_more (said.About about) = No no.Exists
refusal_of_more (No refusal) = No (refusal_but_name refusal)
refusal_of_more reply = No no.Many

-- The desk below is asked about the fifodir, and nothing else. Or there was no memory to ask.
abbrev pub IsOverTheShare : {D : Type 0} → Asking D → D → List ℕ → Reply → D → Type 0
IsOverTheShare asks old name reply new =
    ((about : Reply) × asks old (About name) about new × (reply ≡ refusal_of_more about))
    ⊎ ((reply ≡ No no.Memory) × (new ≡ old))

-- ---- its requests

-- how many fifodirs the session may still make
abbrev pub left_of : {D : Type 0} → Limited D → ℕ
left_of limited = limited.left

-- how many it may still make, after this reply to a request that makes one
abbrev pub left_after : ℕ → Reply → ℕ
left_after left Done = left - 1
left_after left reply = left

-- a request that makes a fifodir of this name
abbrev pub Makes : {D : Type 0} → Asking D → ℕ → D → List ℕ → Request → Reply → ℕ → D → Type 0
Makes asks zero old name request reply left new = IsOverTheShare asks old name reply new × (left ≡ 0)
Makes asks (suc n) old name request reply left new = asks old request reply new × (left ≡ left_after (suc n) reply)

-- What a request leads to. Each that makes no fifodir is asked as it is.
abbrev pub StaysWithin : {D : Type 0} → Asking D → ℕ → D → Request → Reply → ℕ → D → Type 0
StaysWithin asks may old (Dir name waiting total evict) reply left new = Makes asks may old name (Dir name waiting total evict) reply left new
StaysWithin asks may old (Svc name waiting total notifies evict) reply left new = Makes asks may old name (Svc name waiting total notifies evict) reply left new
StaysWithin asks may old request reply left new = asks old request reply new × (left ≡ may)

-- ---- a law

abbrev pub one_if_done : Reply → ℕ
one_if_done Done = 1
one_if_done reply = 0

-- how many fifodirs a request has made
abbrev pub made_by : Request → Reply → ℕ
made_by (Dir name waiting total evict) reply = one_if_done reply
made_by (Svc name waiting total notifies evict) reply = one_if_done reply
made_by request reply = 0

abbrev pub made : List Asked → ℕ
made [] = 0
made (one ∷ rest) = made_by one.request one.reply + made rest

-- a session's requests, one after another; it may make so many fifodirs before them, and so many after
abbrev pub Session : {D : Type 0} → Asking D → ℕ → D → List Asked → ℕ → D → Type 0
Session asks may old [] left new = (left ≡ may) × (new ≡ old)
Session {D} asks may old (one ∷ rest) left new =
    (between : ℕ) × (mid : D) × StaysWithin asks may old one.request one.reply between mid × Session asks between mid rest left new

-- Whatever it asks for, the desk below makes no more than the session may, and as many as the session was told.
abbrev pub MakesItsShare : {D : Type 0} → Asking D → Type 0
MakesItsShare {D} asks = (may left : ℕ) (old new : D) (asked : List Asked) → Session asks may old asked left new
    → (below : List Asked) × Run asks old below new × (made below + left ≡ may) × (made asked ≡ made below)

-- How a follow subscribes to its fifodirs.
use Rattle.std.specs.Prelude.{◌≡◌, ◌≢◌, ◌⊎◌, ℕ, zero, suc, List, [], ◌∷◌, codes, false, Option, None, Some, Ok}
use Rattle.hub_requests.specs.declared.request.Request.{Request}
use Rattle.hub_requests.specs.declared.request.Request.TheVariants as request
use Rattle.hub_requests.specs.declared.reply.Reply.{Reply}
use Rattle.hub_requests.specs.declared.reply.Reply.TheVariants as reply
use Rattle.hub_record.specs.declared.Status.{Status}
use Rattle.hub_ask.specs.Lines.{joined}
use Rattle.hub_look.specs.Looking.{LooksBy}
use Rattle.hub_ask.specs.Streams.{Streams, IsReplied}
use Rattle.hub_look.specs.Tables.{IsJudged}
use Rattle.hub_views.specs.declared.form.Form.{Form}
use Rattle.hub_views.specs.declared.form.Form.TheVariants.{Line, Plain, Json}
use Rattle.hub_look.specs.declared.subscribing.Followed.{Followed}

-- the name of a fifodir that is followed
abbrev pub name_of : Followed → List ℕ
name_of followed = followed.name.bytes.items

-- the line that subscribes to a fifodir
abbrev pub sub_line : (name : List ℕ) → List ℕ
sub_line name = joined (λ word. word) (codes "sub" ∷ name ∷ [])

-- the line of a listener there, for each hit of a pattern
abbrev pub listen_line : (name pattern : List ℕ) → List ℕ
listen_line name pattern = joined (λ word. word) (codes "listen" ∷ name ∷ codes "repeat" ∷ pattern ∷ [])

-- The look that this line spells was sent once, and the reply gives the handle.
pub record IsHandled (before after : Streams) (line : List ℕ) (handle : ℕ) : Type 0 where
  pub request : Request
  pub spelled : LooksBy line (Ok request)
  pub replied : IsReplied before after request (reply.Number handle)

-- It is followed under this name, and isn't over. This is the number of its next event, if that is known.
pub record IsNew (name : List ℕ) (next : Option ℕ) (followed : Followed) : Type 0 where
  pub named : name_of followed ≡ name
  pub number : followed.next ≡ next
  pub lasts : followed.is_over ≡ false

-- It is followed by the handle for this line, and no number is known.
pub record IsSubscribed (before after : Streams) (line name : List ℕ) (followed : Followed) : Type 0 where
  pub handled : IsHandled before after line followed.handle
  pub new : IsNew name None followed

-- A subscription between two looks at how the fifodir is.
pub record IsBetween (before after : Streams) (name : List ℕ) (handle : ℕ) (number later : ℕ) : Type 0 where
  pub status : Status
  pub status_later : Status
  pub first : Streams
  pub second : Streams
  pub looked : IsJudged before first name (Ok status)
  pub handled : IsHandled first second (sub_line name) handle
  pub looked_later : IsJudged second after name (Ok status_later)
  pub numbered : number ≡ status.number
  pub numbered_later : later ≡ status_later.number

-- No event came between the looks, so the number of the next one is known.
pub record IsNumbered (before after : Streams) (name : List ℕ) (followed : Followed) : Type 0 where
  pub number : ℕ
  pub between : IsBetween before after name followed.handle number number
  pub new : IsNew name (Some number) followed

-- An event came between the looks, and the subscription was cancelled.
pub record IsCancelled (before after : Streams) (name : List ℕ) : Type 0 where
  pub handle : ℕ
  pub number : ℕ
  pub later : ℕ
  pub last : Streams
  pub reply : Reply
  pub between : IsBetween before last name handle number later
  pub other : later ≢ number
  pub cancelled : IsReplied last after (request.Cancel handle) reply

-- so many subscriptions were cancelled, one after another
abbrev pub AreCancelled : (tries : ℕ) → (before after : Streams) → (name : List ℕ) → Type 0
AreCancelled zero before after name = after ≡ before
AreCancelled (suc tries) before after name = (between : Streams) × AreCancelled tries before between name × IsCancelled between after name

-- It is subscribed to so that the number of its next event is known, after some that were cancelled. Or it isn't known in the end.
pub record IsTried (before after : Streams) (name : List ℕ) (followed : Followed) : Type 0 where
  pub tries : ℕ
  pub between : Streams
  pub cancelled : AreCancelled tries before between name
  pub last : IsNumbered between after name followed ⊎ IsSubscribed between after (sub_line name) name followed

-- It is subscribed to as it is to be followed: by the hits of a pattern, with letters alone, or with their numbers.
abbrev pub IsBegun : {Word : Type 0} → (text : Word → List ℕ) → (pattern : Option Word) → Form → (before after : Streams)
    → (name : List ℕ) → Followed → Type 0
IsBegun text (Some pattern) form before after name followed = IsSubscribed before after (listen_line name (text pattern)) name followed
IsBegun text None Plain before after name followed = IsSubscribed before after (sub_line name) name followed
IsBegun text None Line before after name followed = IsTried before after name followed
IsBegun text None Json before after name followed = IsTried before after name followed

-- Each is subscribed to, one after another.
abbrev pub AreBegun : {Word : Type 0} → (text : Word → List ℕ) → (pattern : Option Word) → Form → (before after : Streams)
    → (names : List (List ℕ)) → List Followed → Type 0
AreBegun text pattern form before after [] [] = after ≡ before
AreBegun text pattern form before after (name ∷ names) (followed ∷ all) =
    (between : Streams) × IsBegun text pattern form before between name followed × AreBegun text pattern form between after names all
AreBegun text pattern form before after names all = ⊥

-- What a follow asks of a fifodir, and what it writes for each reply.
use Rattle.std.specs.Prelude.{◌≡◌, ◌⊎◌, ℕ, zero, suc, List, ◌∷◌, ◌++◌, length, map, take, codes, Bool, true, false, if◌then◌else◌, Option, None, Some, MatchOption, is_some}
use Rattle.std.specs.Io.KnownBytes.{Appends}
use Rattle.std.specs.List.{list_all}
use Rattle.hub_io.specs.Faults.{AppendsPart}
use Rattle.hub_requests.specs.declared.request.Request.TheVariants as request
use Rattle.hub_requests.specs.declared.reply.Reply.{Reply}
use Rattle.hub_requests.specs.declared.reply.Reply.TheVariants as reply
use Rattle.hub_client.specs.declared.fault.RelayError.TheVariants as relay
use Rattle.hub_ask.specs.declared.fault.AskError.{AskError}
use Rattle.hub_ask.specs.declared.fault.AskError.TheVariants.{Relay, Unknown}
use Rattle.hub_ask.specs.declared.outcome.Outcome.{Outcome}
use Rattle.hub_ask.specs.declared.outcome.Outcome.TheVariants as outcome
use Rattle.hub_views.specs.EventLines.{IsTextOf, number_after}
use Rattle.hub_look.specs.Stops.{IsOwnStop, StopsWith}
use Rattle.hub_ask.specs.Streams.{Streams, IsReplied, IsNoted, IsToldTo, note_of}
use Rattle.hub_look.specs.Subscribing.{AreBegun, name_of}
use Rattle.hub_look.specs.Tables.{reason_of}
use Rattle.hub_look.specs.declared.following.Following.{Following}
use Rattle.hub_views.specs.declared.form.Form.{Form}
use Rattle.hub_look.specs.declared.subscribing.Followed.{Followed}
use Rattle.hub_look.specs.declared.stop.Stop.{Stop}
use Rattle.hub_look.specs.declared.stop.Stop.TheVariants as stops

-- how letters are followed: by the hits of a pattern, how they are written, until the first ones came, and until a deadline
pub record Manner : Type 0 where
  pub is_hit : Bool
  pub form : Form
  pub is_once : Bool
  pub is_timed : Bool

abbrev pub manner_of : Following → Manner
manner_of following = record { is_hit = is_some following.pattern; form = following.form; is_once = following.is_once; is_timed = is_some following.until }

-- the names of the fifodirs that are followed
abbrev pub names_of : Following → List (List ℕ)
names_of following = map (λ name. name.now) following.names.items

-- the letters of a reply that are written: the first one alone, if that is enough
abbrev pub written_of : (is_once : Bool) → List ℕ → List ℕ
written_of true letters = take 1 letters
written_of false letters = letters

-- The letters of a reply, or the hit, are written once, as those of the fifodir, and nothing is written for another reply.
abbrev pub IsWrittenFor : Manner → Followed → Reply → (held holds : Option (List ℕ)) → Type 0
IsWrittenFor manner followed (reply.Got letters) held holds =
    (text : List ℕ) × IsTextOf manner.is_hit manner.form (name_of followed) followed.next (written_of manner.is_once letters) text × Appends held holds text
IsWrittenFor manner followed (reply.Hit letters) held holds =
    (text : List ℕ) × IsTextOf manner.is_hit manner.form (name_of followed) followed.next letters text × Appends held holds text
IsWrittenFor manner followed other held holds = holds ≡ held

-- what is known of the fifodir after a reply: letters that are written move the number of the next one, and after an end nothing comes
abbrev pub followed_after : (is_once : Bool) → Followed → Reply → Followed
followed_after is_once followed (reply.Got letters) = record followed { next = number_after followed.next (length (written_of is_once letters)) }
followed_after is_once followed (reply.Hit letters) = record followed { next = number_after followed.next (length letters) }
followed_after is_once followed reply.End = record followed { is_over = true }
followed_after is_once followed other = followed

-- what a note says of a reply
abbrev pub told_of : Reply → Option (List ℕ)
told_of (reply.No refusal) = Some (reason_of refusal)
told_of reply.Evicted = Some (codes "evicted")
told_of other = None

-- a reply that ends a follow, and how it went by that
abbrev pub ends_by : (is_once : Bool) → Reply → Option Outcome
ends_by is_once (reply.Got letters) = if is_once then Some outcome.Done else None
ends_by is_once (reply.Hit letters) = if is_once then Some outcome.Done else None
ends_by is_once (reply.No refusal) = Some outcome.Refused
ends_by is_once reply.Evicted = Some outcome.Nothing
ends_by is_once other = None

-- a reply after which a follow goes on
abbrev pub GoesOn : (is_once : Bool) → Reply → Type 0
GoesOn is_once (reply.Got letters) = is_once ≡ false
GoesOn is_once (reply.Hit letters) = is_once ≡ false
GoesOn is_once reply.Late = Unit {0}
GoesOn is_once reply.End = Unit {0}
GoesOn is_once other = ⊥

-- how a reply stops a follow: as it tells, or as one that no look at a fifodir has
abbrev pub StopsBy : (is_once : Bool) → Reply → Stop → Type 0
StopsBy is_once reply (stops.Reply went) = ends_by is_once reply ≡ Some went
StopsBy is_once reply (stops.Fault error) = (error ≡ Unknown) × (ends_by is_once reply ≡ None) × (GoesOn is_once reply → ⊥)

-- The reply is told and written. noted and notes are the notes before and after, faults and failed how many writes of them had failed.
pub record IsSettled (manner : Manner) (followed later : Followed) (noted notes : Option (List ℕ)) (faults failed : Option ℕ) (held holds : Option (List ℕ)) (reply : Reply) : Type 0 where
  pub told : MatchOption (told_of reply) ((notes ≡ noted) × (failed ≡ faults)) (λ reason. IsToldTo noted notes faults failed (note_of (name_of followed) reason))
  pub written : IsWrittenFor manner followed reply held holds
  pub moved : later ≡ followed_after manner.is_once followed reply

-- The hub was asked once for what comes next of the fifodir's handle, within so many turns, and this was its reply, which is told and
-- written.
pub record IsTaken (manner : Manner) (turns : ℕ) (followed later : Followed) (before after : Streams) (held holds : Option (List ℕ)) (reply : Reply) : Type 0 where
  pub between : Streams
  pub replied : IsReplied before between (request.Next followed.handle turns) reply
  pub told : MatchOption (told_of reply) (after ≡ between) (λ reason. IsNoted between after (note_of (name_of followed) reason))
  pub written : IsWrittenFor manner followed reply held holds
  pub moved : later ≡ followed_after manner.is_once followed reply

-- Of the letters that came a part was written.
pub record IsCutShort (manner : Manner) (followed : Followed) (held holds : Option (List ℕ)) : Type 0 where
  pub letters : List ℕ
  pub text : List ℕ
  pub lines : IsTextOf manner.is_hit manner.form (name_of followed) followed.next letters text
  pub written : AppendsPart held holds text

-- How letters aren't written: of their text a part was, if the output failed, and else nothing.
abbrev pub FailsToWrite : Manner → Followed → (held holds : Option (List ℕ)) → Stop → Type 0
FailsToWrite manner followed held holds (stops.Reply went) = ⊥
FailsToWrite manner followed held holds (stops.Fault (Relay relay.Output)) = IsCutShort manner followed held holds
FailsToWrite manner followed held holds (stops.Fault error) = holds ≡ held

-- How a take ends a follow: by its reply, or by a fault. Unless writing the letters failed, nothing was written then.
abbrev pub EndsTake : Manner → (turns : ℕ) → (followed later : Followed) → (before after : Streams) → (held holds : Option (List ℕ)) → Stop → Type 0
EndsTake manner turns followed later before after held holds (stops.Reply went) =
    (reply : Reply) × IsTaken manner turns followed later before after held holds reply × (ends_by manner.is_once reply ≡ Some went)
EndsTake manner turns followed later before after held holds (stops.Fault (Relay relay.Output)) = IsCutShort manner followed held holds
EndsTake manner turns followed later before after held holds (stops.Fault error) = holds ≡ held

-- ---- one look at a fifodir

-- The fifodir isn't over. What came next of it was taken, and the follow goes on.
abbrev pub IsLookedAt : Manner → (followed later : Followed) → (before after : Streams) → (held holds : Option (List ℕ)) → Type 0
IsLookedAt manner followed later before after held holds = (followed.is_over ≡ false) × ((turns : ℕ)
    × ((reply : Reply) × IsTaken manner turns followed later before after held holds reply × GoesOn manner.is_once reply))

-- It is looked at, unless it is over.
abbrev pub IsSeenTo : Manner → (followed later : Followed) → (before after : Streams) → (held holds : Option (List ℕ)) → Type 0
IsSeenTo manner followed later before after held holds =
    ((later ≡ followed) × (after ≡ before) × (holds ≡ held)) ⊎ IsLookedAt manner followed later before after held holds

-- How a look at a fifodir that isn't over ends a follow.
abbrev pub EndsLookAt : Manner → (followed later : Followed) → (before after : Streams) → (held holds : Option (List ℕ)) → Stop → Type 0
EndsLookAt manner followed later before after held holds stop =
    (followed.is_over ≡ false) × ((turns : ℕ) × EndsTake manner turns followed later before after held holds stop)

-- ---- the whole follow

-- the fifodirs that are followed, the streams, and the output
pub record Scene : Type 0 where
  pub all : List Followed
  pub streams : Streams
  pub held : Option (List ℕ)

abbrev pub scene : List Followed → Streams → (held : Option (List ℕ)) → Scene
scene all streams held = record { all = all; streams = streams; held = held }

-- One of the fifodirs was looked at. The others are as they were.
pub record IsAskedOne (manner : Manner) (before after : Scene) : Type 0 where
  pub left : List Followed
  pub followed : Followed
  pub later : Followed
  pub right : List Followed
  pub among : before.all ≡ left ++ followed ∷ right
  pub others : after.all ≡ left ++ later ∷ right
  pub asked : IsLookedAt manner followed later before.streams after.streams before.held after.held

-- So many looks, one after another.
abbrev pub AreAsked : Manner → (count : ℕ) → (before after : Scene) → Type 0
AreAsked manner zero before after = after ≡ before
AreAsked manner (suc count) before after = (between : Scene) × AreAsked manner count before between × IsAskedOne manner between after

-- Some looks, one after another.
abbrev pub LooksOn : Manner → (before after : Scene) → Type 0
LooksOn manner before after = (count : ℕ) × AreAsked manner count before after

-- One more look, at one of the fifodirs, ends the follow.
pub record EndsLook (manner : Manner) (before : Scene) (after : Streams) (holds : Option (List ℕ)) (stop : Stop) : Type 0 where
  pub left : List Followed
  pub followed : Followed
  pub later : Followed
  pub right : List Followed
  pub among : before.all ≡ left ++ followed ∷ right
  pub asked : EndsLookAt manner followed later before.streams after before.held holds stop

-- Some looks, and the one that ended the follow.
pub record EndsLooks (manner : Manner) (before : Scene) (after : Streams) (holds : Option (List ℕ)) (stop : Stop) : Type 0 where
  pub count : ℕ
  pub between : Scene
  pub looks : AreAsked manner count before between
  pub ends : EndsLook manner between after holds stop

-- nothing will come of any of them
abbrev pub AreOver : List Followed → Type 0
AreOver all = list_all (λ followed. followed.is_over) all ≡ true

-- Some looks, one after another, until nothing will come of any of the fifodirs, or the time was over.
abbrev pub EndsRounds : Manner → (before after : Scene) → Outcome → Type 0
EndsRounds manner before after went =
    LooksOn manner before after × (((went ≡ outcome.Nothing) × AreOver after.all) ⊎ ((went ≡ outcome.Late) × (manner.is_timed ≡ true)))

-- what is known of the streams after fifodirs of these names were subscribed to, and of what is followed then
abbrev pub Beginning : Type 1
Beginning = (after : Streams) → (names : List (List ℕ)) → List Followed → Type 0

-- what is said once all are followed again
abbrev pub again_line : List ℕ
again_line = codes "ftrighub: following again; events may lie between\n"

-- If they were followed before, that was said once.
abbrev pub IsSaid : (is_again : Bool) → (before after : Streams) → Type 0
IsSaid false before after = after ≡ before
IsSaid true before after = IsNoted before after again_line

-- They were subscribed to as they are to be followed, and if they were followed before, that was said then. These were the streams
-- before.
abbrev pub begins_by : Following → (before : Streams) → Beginning
begins_by following before after names all = (between : Streams)
    × AreBegun (λ word. word.now) following.pattern following.form before between names all × IsSaid following.is_again between after

-- Each fifodir is followed by its name, and some of them were looked at, one after another. between is how the streams were when all
-- were subscribed to.
pub record IsUnderWay (manner : Manner) (begins : Beginning) (names : List (List ℕ)) (held : Option (List ℕ)) (now : Scene) : Type 0 where
  pub start : List Followed
  pub between : Streams
  pub named : map name_of start ≡ names
  pub begun : begins between names start
  pub count : ℕ
  pub looks : AreAsked manner count (record { all = start; streams = between; held = held }) now

-- They were followed until nothing will come any more.
pub record IsFollowed (manner : Manner) (begins : Beginning) (names : List (List ℕ)) (after : Streams) (held holds : Option (List ℕ)) : Type 0 where
  pub all : List Followed
  pub followed : IsUnderWay manner begins names held (record { all = all; streams = after; held = holds })
  pub over : AreOver all

-- They were followed until a reply or a fault ended that.
pub record EndsUnderWay (manner : Manner) (begins : Beginning) (names : List (List ℕ)) (after : Streams) (held holds : Option (List ℕ)) (stop : Stop) : Type 0 where
  pub now : Scene
  pub followed : IsUnderWay manner begins names held now
  pub ends : EndsLooks manner now after holds stop

-- How a follow ends by a reply or a fault: until all are subscribed to, nothing is written.
abbrev pub EndsFollow : Manner → (begins : Beginning) → (names : List (List ℕ)) → (after : Streams) → (held holds : Option (List ℕ)) → Stop → Type 0
EndsFollow manner begins names after held holds stop =
    (IsOwnStop stop × (holds ≡ held)) ⊎ EndsUnderWay manner begins names after held holds stop

-- It ended without a reply or a fault: nothing will come any more, or its time was over.
abbrev pub EndsByItself : Manner → (begins : Beginning) → (names : List (List ℕ)) → (after : Streams) → (held holds : Option (List ℕ)) → Outcome → Type 0
EndsByItself manner begins names after held holds went =
    ((went ≡ outcome.Nothing) × IsFollowed manner begins names after held holds)
    ⊎ ((went ≡ outcome.Late) × (manner.is_timed ≡ true) × ((all : List Followed) × IsUnderWay manner begins names held (scene all after holds)))

-- A follow has this outcome. A reply ended it, or it ended by itself, or no answer came by its time.
abbrev pub FollowsTo : Manner → (begins : Beginning) → (names : List (List ℕ)) → (after : Streams) → (held holds : Option (List ℕ)) → Outcome → Type 0
FollowsTo manner begins names after held holds went = EndsByItself manner begins names after held holds went
    ⊎ ((stop : Stop) × StopsWith manner.is_timed stop went × EndsFollow manner begins names after held holds stop)

-- A follow fails so.
abbrev pub FailsToFollow : Manner → (begins : Beginning) → (names : List (List ℕ)) → (after : Streams) → (held holds : Option (List ℕ)) → AskError → Type 0
FailsToFollow manner begins names after held holds error = EndsFollow manner begins names after held holds (stops.Fault error)

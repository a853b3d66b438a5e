-- What `follow` does over its connections.
use Rattle.std.specs.Prelude.{◌≡◌, ◌⊎◌, ◌≤◌, ℕ, zero, suc, List, codes, Bool, Option, None, Some, Result, Ok, Err, is_some, true, false}
use Rattle.hub_options.specs.declared.asking.Follow.{Follow}
use Rattle.hub_ask.specs.Outcomes.{status_of}
use Rattle.hub_client.specs.declared.fault.RelayError.TheVariants as relay
use Rattle.hub_ask.specs.declared.deadline.Deadline.{Deadline}
use Rattle.hub_ask.specs.declared.exchanging.TheConstants.{ANSWER}
use Rattle.hub_ask.specs.declared.fault.AskError.{AskError}
use Rattle.hub_ask.specs.declared.fault.AskError.TheVariants.{NoAnswer, Relay}
use Rattle.hub_ask.specs.declared.outcome.Outcome.{Outcome}
use Rattle.hub_ask.specs.declared.outcome.Outcome.TheVariants.{Late}
use Rattle.hub_look.specs.Follows.{Beginning, FailsToFollow, FollowsTo, Manner, begins_by, manner_of, names_of}
use Rattle.hub_look.specs.Looks.{OnlyLooks}
use Rattle.hub_ask.specs.Streams.{IsToldTo, Streams, Going, Told}
use Rattle.hub_look.specs.declared.following.Following.{Following}
use Rattle.hub_views.specs.declared.form.Form.{Form}
use Rattle.hub_views.specs.declared.form.Form.TheVariants as form
use Rattle.hub_io.specs.Counted.{Writing}
use Rattle.hub_showing.specs.Breaking.{follow_breaks}
use Rattle.hub_dialing.specs.Dialing.{Dialing, OverOne}
use Rattle.hub_endings.specs.Words.{IsLimit}
use Rattle.hub_endings.specs.declared.ending.BadWords.{BadWords}
use Rattle.hub_endings.specs.declared.ending.BadWords.TheVariants as bad
use Rattle.hub_endings.specs.declared.ending.Ending.{Ending}
use Rattle.hub_endings.specs.declared.ending.Ending.TheVariants.{Refused, Stopped, Unreached, Failed}
use Rattle.hub_endings.specs.declared.fault.Fault.{Fault}
use Rattle.hub_endings.specs.declared.fault.Fault.TheVariants.{Ask, Reach}
use Rattle.hub_endings.specs.declared.reach_fault.ReachFault.{ReachFault}

-- ---- what is wanted

-- how letters are written by these options, of which the first comes before the second
abbrev pub form_of : (is_plain is_json : Bool) → Form
form_of true is_json = form.Plain
form_of false true = form.Json
form_of false false = form.Line

-- what is followed as it is wanted, until a deadline, for the first time or again
abbrev pub following_wanted : Follow → (until : Option Deadline) → (is_again : Bool) → Following
following_wanted wanted until is_again = record {
  names = wanted.names;
  pattern = wanted.pattern;
  form = form_of wanted.is_plain wanted.is_json;
  is_once = wanted.is_once;
  until = until;
  is_again = is_again;
}

-- There is a deadline if the words have a duration.
abbrev pub IsUntil : {T : Type 0} → (timeout : Option T) → (until : Option Deadline) → Type 0
IsUntil timeout until = is_some until ≡ is_some timeout

-- ---- one connection

-- what a follow has: a dialer, its notes, and what was written
pub record Having (D F : Type 0) : Type 0 where
  pub dialer : D
  pub notes : F
  pub held : Option (List ℕ)

-- the hub and the way to it, what is followed there, whether they were followed before, and whether the end of a hub is waited out
pub record Course (D SR SW F : Type 0) : Type 1 where
  pub dialing : Dialing D SR SW
  pub socket : List ℕ
  pub writing : Writing F
  pub manner : Manner
  pub begins : Streams → Beginning
  pub names : List (List ℕ)
  pub is_again : Bool
  pub retries : Bool

-- A hub was reached over a sender and a receiver. This is how they were to be seen then.
pub record IsReached {D SR SW : Type 0} (d : Dialing D SR SW) (old new : D) (socket : List ℕ) (millis : ℕ) (begun : SW) (sent had : Option (List ℕ)) : Type 0 where
  pub receive : SR
  pub reached : d.reaches old socket millis (Ok (receive, begun)) new
  pub is_sent : sent ≡ d.contents begun
  pub is_had : had ≡ d.remaining receive

-- Nothing was noted or written.
pub record IsSilent {D F : Type 0} (before after : Having D F) : Type 0 where
  pub notes : after.notes ≡ before.notes
  pub held : after.held ≡ before.held

-- No connection was made, for this reason, and nothing was noted or written.
pub record IsUnreached {D SR SW F : Type 0} (c : Course D SR SW F) (before after : Having D F) (fault : Fault) : Type 0 where
  pub millis : ℕ
  pub few : millis ≤ ANSWER
  pub failed : c.dialing.reaches before.dialer c.socket millis (Err fault) after.dialer
  pub silent : IsSilent before after

-- One connection was made. Over it only looks were sent, and this went over it.
pub record LooksThere {D SR SW F : Type 0} (c : Course D SR SW F) (before after : Having D F) (went : Going) : Type 0 where
  pub millis : ℕ
  pub few : millis ≤ ANSWER
  pub over : OverOne c.dialing before.dialer after.dialer c.socket millis (λ sent sends had has. ∥ OnlyLooks sent sends ∥₁ × went sent sends had has)

-- This went over a connection. If they were followed before, they may have been looked at first.
pub record AfterLooks (is_again : Bool) (went : Going) (sent sends had has : Option (List ℕ)) : Type 0 where
  pub begun : Option (List ℕ)
  pub left : Option (List ℕ)
  pub first : is_again ≡ false → (begun ≡ sent) × (left ≡ had)
  pub over : went begun sends left has

-- They were followed over one connection, with this outcome.
abbrev pub IsFollowedThere : {D SR SW F : Type 0} → Course D SR SW F → (before after : Having D F) → Outcome → Type 0
IsFollowedThere c before after went = LooksThere c before after (AfterLooks c.is_again
    (Told c.writing before.notes after.notes (λ begun ended. FollowsTo c.manner (c.begins begun) c.names ended before.held after.held went)))

-- Following them over one connection failed so.
abbrev pub FailsThere : {D SR SW F : Type 0} → Course D SR SW F → (before after : Having D F) → AskError → Type 0
FailsThere c before after error = LooksThere c before after (AfterLooks c.is_again
    (Told c.writing before.notes after.notes (λ begun ended. FailsToFollow c.manner (c.begins begun) c.names ended before.held after.held error)))

-- The time was over before there was a connection, and nothing was noted or written.
abbrev pub RunsOut : {D SR SW F : Type 0} → Course D SR SW F → (before after : Having D F) → Type 0
RunsOut c before after = (c.manner.is_timed ≡ true) × ((after ≡ before) ⊎ IsUnreached c before after (Ask NoAnswer))

-- a connection that ended, or couldn't be used any more
abbrev pub is_end : AskError → Bool
is_end (Relay relay.Ended) = true
is_end (Relay relay.Send) = true
is_end (Relay relay.Receive) = true
is_end other = false

-- what is said of the end of a hub
abbrev pub gone_line : List ℕ
gone_line = codes "ftrighub: the hub ended; waiting for it\n"

-- They were followed over one connection until it ended, and that was said once.
pub record IsEnded {D SR SW F : Type 0} (c : Course D SR SW F) (before after : Having D F) : Type 0 where
  pub notes : F
  pub error : AskError
  pub fails : FailsThere c before (record { dialer = after.dialer; notes = notes; held = after.held }) error
  pub ends : is_end error ≡ true
  pub said : IsToldTo (c.writing.contents notes) (c.writing.contents after.notes) (c.writing.faults notes) (c.writing.faults after.notes) gone_line

-- The hub has no room, or can't be reached.
abbrev pub IsAbsence : Fault → Type 0
IsAbsence fault = ((why : ReachFault) × (fault ≡ Reach why)) ⊎ (fault ≡ Ask NoAnswer)

-- Only looks were sent over one connection, and nothing was noted or written.
abbrev pub IsLookedThere : {D SR SW F : Type 0} → Course D SR SW F → (before after : Having D F) → Type 0
IsLookedThere c before after = IsSilent before after × LooksThere c before after (λ sent sends had has. Unit {0})

-- They were followed before. The hub isn't there again, or not all of them, and nothing was noted or written.
abbrev pub IsAway : {D SR SW F : Type 0} → Course D SR SW F → (before after : Having D F) → Type 0
IsAway c before after = (c.is_again ≡ true) × (((fault : Fault) × IsAbsence fault × IsUnreached c before after fault) ⊎ IsLookedThere c before after)

-- What became of one connection. They were followed to an outcome, or the time was over before. Or it is to be tried again: the hub ended,
-- which is waited out if it is to be, or isn't there again yet. Or there was a fault.
abbrev pub FollowsThere : {D SR SW F : Type 0} → Course D SR SW F → (before after : Having D F) → Result (Option Outcome) Fault → Type 0
FollowsThere c before after (Ok (Some went)) = IsFollowedThere c before after went ⊎ ((went ≡ Late) × RunsOut c before after)
FollowsThere c before after (Ok None) = ((c.retries ≡ true) × IsEnded c before after) ⊎ IsAway c before after
FollowsThere c before after (Err fault) = IsUnreached c before after fault
    ⊎ ((error : AskError) × (fault ≡ Ask error) × (FailsThere c before after error ⊎ ((c.is_again ≡ true) × IsLookedThere c before after)))

-- ---- the whole command

abbrev pub course : {D SR SW F : Type 0} → Dialing D SR SW → (socket : List ℕ) → Writing F → Following → (retries : Bool) → Course D SR SW F
course d socket n following retries = record {
  dialing = d;
  socket = socket;
  writing = n;
  manner = manner_of following;
  begins = begins_by following;
  names = names_of following;
  is_again = following.is_again;
  retries = retries;
}

-- whether there were some
abbrev pub is_some_of : (count : ℕ) → Bool
is_some_of zero = false
is_some_of (suc count) = true

-- the course of a connection after so many others; all have one deadline
abbrev pub course_after : {D SR SW F : Type 0} → Dialing D SR SW → (socket : List ℕ) → Writing F → Follow → (until : Option Deadline) → (count : ℕ) → Course D SR SW F
course_after d socket n wanted until count = course d socket n (following_wanted wanted until (is_some_of count)) wanted.is_patient

-- So many connections were tried, one after another, and after each it is to be tried again.
abbrev pub AreTried : {D SR SW F : Type 0} → Dialing D SR SW → (socket : List ℕ) → Writing F → Follow → (until : Option Deadline) → (count : ℕ) → (before after : Having D F) → Type 0
AreTried d socket n wanted until zero before after = after ≡ before
AreTried {D} {SR} {SW} {F} d socket n wanted until (suc count) before after = (between : Having D F)
    × AreTried d socket n wanted until count before between × FollowsThere (course_after d socket n wanted until count) between after (Ok None)

-- the same of an outcome
abbrev pub some_of : Result Outcome Fault → Result (Option Outcome) Fault
some_of (Ok went) = Ok (Some went)
some_of (Err fault) = Err fault

-- Some were tried, and what became of the last one was this.
pub record FollowsOn {D SR SW F : Type 0} (d : Dialing D SR SW) (socket : List ℕ) (n : Writing F) (wanted : Follow) (before after : Having D F) (last : Result (Option Outcome) Fault) : Type 0 where
  pub until : Option Deadline
  pub timed : IsUntil wanted.timeout until
  pub count : ℕ
  pub between : Having D F
  pub tried : AreTried d socket n wanted until count before between
  pub ended : FollowsThere (course_after d socket n wanted until count) between after last

-- the milliseconds of the duration that is told, if one is told, or why it is refused
abbrev pub IsLimitOfFollow : Follow → Result (Option ℕ) Ending → Type 0
IsLimitOfFollow wanted result = IsLimit (λ word. word.now) wanted.timeout result

-- Words are refused for these reasons, and nothing was touched.
abbrev pub IsBadFollow : Follow → BadWords → Type 0
IsBadFollow wanted words = ((words ≡ bad.Word) × (follow_breaks (λ word. word.now) wanted.pattern wanted.names.items ≡ true))
    ⊎ IsLimitOfFollow wanted (Err (Refused words))

-- No word has a line feed, and a duration that is told is one that a wait may have.
abbrev pub IsGoodFollow : Follow → Type 0
IsGoodFollow wanted = (follow_breaks (λ word. word.now) wanted.pattern wanted.names.items ≡ false) × ((limit : Option ℕ) × IsLimitOfFollow wanted (Ok limit))

-- How `follow` ended.
abbrev pub FollowsAsTold : {D SR SW F : Type 0} → Dialing D SR SW → (socket : List ℕ) → Writing F → (before after : Having D F) → Follow → (untouched : Type 0) → Result ℕ Ending → Type 0
FollowsAsTold d socket n before after wanted untouched (Ok status) = IsGoodFollow wanted × ((went : Outcome) × (status ≡ status_of went) × FollowsOn d socket n wanted before after (Ok (Some went)))
FollowsAsTold d socket n before after wanted untouched (Err (Refused words)) = IsBadFollow wanted words × (after ≡ before) × untouched
FollowsAsTold d socket n before after wanted untouched (Err (Stopped report)) = ⊥
FollowsAsTold d socket n before after wanted untouched (Err (Unreached hub)) = ⊥
FollowsAsTold d socket n before after wanted untouched (Err (Failed fault)) = (IsGoodFollow wanted × FollowsOn d socket n wanted before after (Err fault))
    ⊎ ((follow_breaks (λ word. word.now) wanted.pattern wanted.names.items ≡ false) × IsLimitOfFollow wanted (Err (Failed fault)) × (after ≡ before) × untouched)

-- What a hub has before and after a fifodir is made in it, and what the session is told.
use Rattle.std.specs.Prelude.{◌≡◌, ◌≤◌, ◌<◌, ◌++◌, ◌∷◌, [], ℕ, List, Bool, false, None, Some, IsSome, length}
use Rattle.std.specs.Str.{bytes_eq}
use Rattle.indexmap.specs.IndexMap.{get}
use Rattle.hub_record.specs.declared.Kind.{Kind}
use Rattle.hub_record.specs.declared.limits.Limits.{Limits}
use Rattle.hub_requests.specs.declared.bounds.TheConstants.{MOST_NAMES}
use Rattle.hub_requests.specs.declared.reply.Reply.{Reply}
use Rattle.hub_requests.specs.declared.reply.Reply.TheVariants.{Done, No}
use Rattle.hub_names.specs.declared.fifodirs.Fifodirs.{Fifodirs}
use Rattle.hub_names.specs.declared.hub.Hub.{Hub}
use Rattle.hub_names.specs.declared.hub.HubError.{HubError}
use Rattle.hub_names.specs.declared.hub.HubError.TheVariants.{Exists, Many, Memory}
use Rattle.hub_names.specs.declared.hub.looking.Changing.{Changing}
use Rattle.hub_names.specs.declared.hub.looking.NamesChange.{NamesChange}
use Rattle.hub_names.specs.Hubs.{HasMade, seen_under}
use Rattle.hub_names.specs.Looks.{IsLookAt, given_by, names_seen}
use Rattle.hub_names.specs.Refusals.{refusal_of_hub}

abbrev pub hub_changed : Changing → Hub
hub_changed locked = locked.hub.now

-- of this hub, before and after
pub record IsChangeAt (hub : Hub) (change : NamesChange) : Type 0 where
  pub was : IsLookAt hub change.before
  pub is : IsLookAt hub change.after

-- the name had no fifodir, has such a one, and is the last one now; no other name has changed
pub record HasMadeUnder (kind : Kind) (limits : Limits) (notifies : Bool) (name : List ℕ) (change : NamesChange) : Type 0 where
  pub free : seen_under change.before name ≡ None
  pub made : HasMade kind limits notifies (get bytes_eq (given_by change.after).fifodirs name)
  pub others : (other : List ℕ) → bytes_eq name other ≡ false → get bytes_eq (given_by change.after).fifodirs other ≡ get bytes_eq (given_by change.before).fifodirs other
  pub last : names_seen change.after ≡ names_seen change.before ++ name ∷ []

-- Exists comes before Many, and both before Memory
abbrev pub IsInPlace : List ℕ → NamesChange → HubError → Type 0
IsInPlace name change Exists = IsSome (seen_under change.before name)
IsInPlace name change Many = (seen_under change.before name ≡ None) × (MOST_NAMES ≤ length (names_seen change.before))
IsInPlace name change Memory = (seen_under change.before name ≡ None) × (length (names_seen change.before) < MOST_NAMES)

-- why none was made, and nothing has changed
pub record IsWhyUnmade (name : List ℕ) (change : NamesChange) (error : HubError) : Type 0 where
  pub in_place : IsInPlace name change error
  pub same : (given_by change.after).fifodirs.entries ≡ (given_by change.before).fifodirs.entries

-- ---- what a session is told

abbrev pub TellsMade : Kind → Limits → Bool → List ℕ → NamesChange → Reply → Type 0
TellsMade kind limits notifies name change Done = HasMadeUnder kind limits notifies name change
TellsMade kind limits notifies name change (No refusal) = (error : HubError) × (refusal ≡ refusal_of_hub error) × IsWhyUnmade name change error
TellsMade kind limits notifies name change _ = ⊥

-- the session has changed its hub's names so, or they are as they were, and keeps what it kept
pub record MakesName (hub : Hub) (kind : Kind) (limits : Limits) (notifies : Bool) (old : Fifodirs) (name : List ℕ) (reply : Reply) (new : Fifodirs) : Type 0 where
  pub change : NamesChange
  pub changed : IsChangeAt hub change
  pub tells : TellsMade kind limits notifies name change reply
  pub kept : new ≡ record old { change = Some change }

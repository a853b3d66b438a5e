-- A session's wills: how one is given, and how all are carried out when the session ends.
use Rattle.std.specs.Prelude.{◌≡◌, ◌⊎◌, ℕ, ◌+◌, Bool, true, false, List, [], ◌∷◌, Option, Some, None, Result, Ok, Err}
use Rattle.hub_letters.specs.declared.state.State.{State}
use Rattle.hub_letters.specs.States.{is_at_end}
use Rattle.hub_record.specs.World.{letters}
use Rattle.hub_record.specs.declared.Kind.TheVariants.{Plain, Service}
use Rattle.hub_record.specs.declared.PubError.{PubError}
use Rattle.hub_record.specs.declared.PubError.TheVariants as post
use Rattle.hub_requests.specs.Wills.{state_of, with_will}
use Rattle.hub_requests.specs.declared.will.Will.{Will}
use Rattle.hub_requests.specs.declared.reply.Refusal.TheVariants as no
use Rattle.hub_requests.specs.declared.reply.Reply.{Reply}
use Rattle.hub_requests.specs.declared.reply.Reply.TheVariants.{Done, No}
use Rattle.hub_fifodir.specs.declared.publisher.Publisher.{Publisher}
use Rattle.hub_fifodir.specs.Passes.{HasPublished, IsLast, IsRefusedAt, KnewOwnClose, WasLast, kind_of, mine, seen_by, word_told, word_to_tell}
use Rattle.hub_names.specs.declared.fifodirs.Fifodirs.{Fifodirs}
use Rattle.hub_names.specs.declared.hub.Hub.{Hub}
use Rattle.hub_names.specs.declared.joined.Joined.{Joined}
use Rattle.hub_names.specs.Fifodirs.{AsksUnder, IsAsBefore, Keeps, joined_at}
use Rattle.hub_names.specs.Speaking.{HasSpoken, IsSpeaker, IsUnmade, fifodir_of}

-- ---- a will is given

-- the session has a publisher there now: that which it kept, or a new one
pub record HasSpeaker (old new : Joined) : Type 0 where
  pub speaker : Publisher
  pub found : new.found ≡ old.found
  pub speaks : IsSpeaker (fifodir_of old) old.publisher speaker
  pub kept : new.publisher ≡ Some speaker

-- the publisher is ready, or memory ran out first, or the fifodir gave none
abbrev pub ReadiesSpeaker : Joined → Reply → Joined → Type 0
ReadiesSpeaker old reply new = ((reply ≡ Done) × HasSpeaker old new) ⊎ (((reply ≡ No no.Memory) × (new ≡ old)) ⊎ IsUnmade old reply new)

-- the fifodir is a service's, and its publisher is readied; or it is plain, and nothing is done
abbrev pub ReadiesForWill : Joined → Reply → Joined → Type 0
ReadiesForWill old reply new = ((kind_of (fifodir_of old) ≡ Service) × ReadiesSpeaker old reply new)
    ⊎ ((kind_of (fifodir_of old) ≡ Plain) × (reply ≡ No no.Kind) × (new ≡ old))

-- the service under the name is given a will
abbrev pub WillsByName : Hub → Fifodirs → List ℕ → Reply → Fifodirs → Type 0
WillsByName hub old name reply new = AsksUnder hub ReadiesForWill old name reply new

-- the wills after this one, if it was accepted
abbrev pub wills_after : List ℕ → Will → Reply → List (List ℕ × Will) → List (List ℕ × Will)
wills_after name will Done wills = with_will wills name will
wills_after name will reply wills = wills

-- ---- a will is carried out

-- A publisher that was `p` and is `q` told the state as the last one to publish: the service is there, or the word for it was refused.
-- Or the last event is another's, and nothing was told. It closes nothing.
abbrev pub says_as_last : State → Publisher → Option (Result ℕ PubError) → Publisher → Type 0
says_as_last state p (Some (Ok n)) q = WasLast n q × HasPublished p (word_told state n q) n q × (is_at_end state (letters (seen_by q)) ≡ true)
says_as_last state p (Some (Err error)) q = IsLast q × IsRefusedAt q (word_to_tell state q) error × (mine q ≡ mine p) × KnewOwnClose p q
says_as_last state p None q = (IsLast q → ⊥) × (mine q ≡ mine p) × KnewOwnClose p q

-- whether it may be told a moment later
abbrev pub finds_no_room : Option (Result ℕ PubError) → Bool
finds_no_room (Some (Err post.Full)) = true
finds_no_room told = false

-- whether it was refused, though the fifodir is open
abbrev pub is_lost : Option (Result ℕ PubError) → Bool
is_lost (Some (Err post.Full)) = true
is_lost (Some (Err post.Spent)) = true
is_lost told = false

-- the publisher that is kept told the state as the last one to publish, if it is that
pub record TellsAsLast (state : State) (old : Joined) (lost : Bool) (new : Joined) : Type 0 where
  pub service : kind_of (fifodir_of old) ≡ Service
  pub before : Publisher
  pub after : Publisher
  pub was : old.publisher ≡ Some before
  pub spoken : HasSpoken old before after new
  pub told : Option (Result ℕ PubError)
  pub said : says_as_last state before told after
  pub lost_is : lost ≡ is_lost told

-- who has no publisher, or has a plain fifodir, tells nothing
pub record IsMute (old : Joined) (lost : Bool) (new : Joined) : Type 0 where
  pub mute : (old.publisher ≡ None) ⊎ (kind_of (fifodir_of old) ≡ Plain)
  pub same : new ≡ old
  pub none_lost : lost ≡ false

abbrev pub MayTell : State → Joined → Bool → Joined → Type 0
MayTell state old lost new = TellsAsLast state old lost new ⊎ IsMute old lost new

-- by what is kept under the name
pub record TellsUnder (state : State) (old : Fifodirs) (name : List ℕ) (lost : Bool) (new : Fifodirs) : Type 0 where
  pub before : Joined
  pub after : Joined
  pub kept_is : joined_at old name ≡ Some before
  pub tells : MayTell state before lost after
  pub keeps : Keeps old name after new

pub record IsIdle (old : Fifodirs) (lost : Bool) (new : Fifodirs) : Type 0 where
  pub same : IsAsBefore old new
  pub none_lost : lost ≡ false

-- the state under the name, if there is one to tell
abbrev pub TellsState : Option State → Fifodirs → List ℕ → Bool → Fifodirs → Type 0
TellsState (Some state) old name lost new = TellsUnder state old name lost new ⊎ ((joined_at old name ≡ None) × IsIdle old lost new)
TellsState None old name lost new = IsIdle old lost new

abbrev pub IsCarriedOut : Fifodirs → List ℕ × Will → Bool → Fifodirs → Type 0
IsCarriedOut old given lost new = TellsState (state_of given.1) old given.0 lost new

abbrev pub counted : Bool → ℕ
counted true = 1
counted false = 0

-- each of the wills, one after the other, and how many of them were refused at fifodirs that are open
abbrev pub AreCarriedOut : Fifodirs → List (List ℕ × Will) → ℕ → Fifodirs → Type 0
AreCarriedOut old [] count new = (new ≡ old) × (count ≡ 0)
AreCarriedOut old (given ∷ rest) count new =
    (mid : Fifodirs) × (lost : Bool) × (others : ℕ) × IsCarriedOut old given lost mid × AreCarriedOut mid rest others new × (count ≡ counted lost + others)

-- What a session's publisher says, and how it is kept; and what a session is told about a fifodir.
use Rattle.std.specs.Prelude.{◌≡◌, ◌≢◌, Bool, [], Option, None, Some, ◌⊎◌}
use Rattle.std.specs.Arc.{arc_value}
use Rattle.hub_requests.specs.declared.reply.Reply.{Reply}
use Rattle.hub_requests.specs.declared.reply.Reply.TheVariants.{About, No}
use Rattle.hub_letters.specs.declared.state.State.{State}
use Rattle.hub_record.specs.declared.Kind.TheVariants.{Plain, Service}
use Rattle.hub_requests.specs.declared.reply.Refusal.TheVariants.{Kind}
use Rattle.hub_fifodir.specs.declared.PassError.{PassError}
use Rattle.hub_fifodir.specs.declared.fifodir.Fifodir.{Fifodir}
use Rattle.hub_fifodir.specs.declared.publisher.Publisher.{Publisher}
use Rattle.hub_fifodir.specs.declared.usage.Usage.{Usage}
use Rattle.hub_fifodir.specs.Passes.{IsPublisherOf, IsUsage, kind_of, closed_mark, mine, publisher_number, publisher_sight}
use Rattle.hub_fifodir.specs.Steps.{Grows}
use Rattle.hub_names.specs.declared.hub.Found.{Found}
use Rattle.hub_names.specs.declared.joined.Joined.{Joined}
use Rattle.hub_names.specs.Refusals.{refusal_of_pass}
use Rattle.hub_names.specs.Says.{about_of, says_told}

abbrev pub found_of : Joined → Found
found_of j = j.found

abbrev pub fifodir_of : Joined → Fifodir
fifodir_of j = arc_value j.found.dir

-- whether its service reports readiness
abbrev pub notifies_of : Joined → Bool
notifies_of j = j.found.notifies

-- the session's publisher there, once it was made
abbrev pub publisher_of : Joined → Option Publisher
publisher_of j = j.publisher

-- a publisher that the fifodir has just given
pub record IsNew (dir : Fifodir) (p : Publisher) : Type 0 where
  pub of : IsPublisherOf dir p
  pub silent : mine p ≡ []
  pub unclosed : closed_mark p ≢ publisher_number p

-- the publisher that is kept speaks, and where none is kept a new one
abbrev pub IsSpeaker : Fifodir → Option Publisher → Publisher → Type 0
IsSpeaker dir (Some kept) p = p ≡ kept
IsSpeaker dir None p = IsNew dir p

-- ---- what is asked of it

-- the publisher spoke: it is the same, of the same fifodir, and has seen no less
pub record HasSpoken (old : Joined) (p q : Publisher) (new : Joined) : Type 0 where
  pub found : new.found ≡ old.found
  pub speaker : IsSpeaker (fifodir_of old) old.publisher p
  pub kept : new.publisher ≡ Some q
  pub same : publisher_number q ≡ publisher_number p
  pub seen : Grows (publisher_sight p) (publisher_sight q)

pub record Spoke (says : Publisher → Reply → Publisher → Type 0) (old : Joined) (reply : Reply) (new : Joined) : Type 0 where
  pub before : Publisher
  pub after : Publisher
  pub spoken : HasSpoken old before after new
  pub said : says before reply after

-- none was kept, and none was given
pub record IsUnmade (old : Joined) (reply : Reply) (new : Joined) : Type 0 where
  pub unmade : old.publisher ≡ None
  pub found : new.found ≡ old.found
  pub still : new.publisher ≡ None
  pub error : PassError
  pub refused : reply ≡ No (refusal_of_pass error)

abbrev pub AsksAsPublisher : (Publisher → Reply → Publisher → Type 0) → Joined → Reply → Joined → Type 0
AsksAsPublisher says old reply new = Spoke says old reply new ⊎ IsUnmade old reply new

-- the fifodir is a service's, and its publisher told where that is; or it is plain, and nothing is done
abbrev pub Tells : State → Joined → Reply → Joined → Type 0
Tells state old reply new = ((kind_of (fifodir_of old) ≡ Service) × AsksAsPublisher (says_told state) old reply new)
    ⊎ ((kind_of (fifodir_of old) ≡ Plain) × (reply ≡ No Kind) × (new ≡ old))

-- what the fifodir is, and how much was there when its lock was taken; the session's publisher there, if any, stays as it is
pub record Describes (old : Joined) (reply : Reply) (new : Joined) : Type 0 where
  pub usage : Usage
  pub used : IsUsage (fifodir_of old) usage
  pub said : reply ≡ About (about_of (fifodir_of old) (notifies_of old) usage)
  pub same : new ≡ old

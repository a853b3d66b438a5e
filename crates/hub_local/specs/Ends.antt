-- The end of a session: its handles are given back, and then its wills are carried out.
use Rattle.std.specs.Prelude.{ℕ, Bool, if◌then◌else◌, List, [], ◌∷◌, map, nat_eq, Option, Some, None}
use Rattle.std.specs.Map.{values_of}
use Rattle.std.specs.Option.{option_eq}
use Rattle.hub_letters.specs.declared.state.State.{State}
use Rattle.hub_letters.specs.States.{word_behind}
use Rattle.hub_record.specs.World.{World, letters, after_publish, last_publisher}
use Rattle.hub_record.specs.declared.Kind.{Kind}
use Rattle.hub_record.specs.declared.Kind.TheVariants.{Plain, Service}
use Rattle.hub_requests.specs.Wills.{state_of}
use Rattle.hub_requests.specs.declared.will.Will.{Will}
use Rattle.hub_local.specs.Desks.{Desk, Fifodir, active, with_world, without_all, without_holding, world_of}
use Rattle.hub_local.specs.Replies.{publish_reply}

-- the letters that bring the service to a state
abbrev pub word_in : State → World → List ℕ
word_in state w = word_behind state (letters w.events)

-- whether the desk's publisher, whose number is 1, published the last event
abbrev pub is_own_last : World → Bool
is_own_last w = option_eq nat_eq (last_publisher w.events) (Some 1)

-- the word for the state is published, if the last event is the desk's own
abbrev pub told_if_own : State → World → World
told_if_own state w = if is_own_last w then after_publish w 1 (word_in state w) (publish_reply w (word_in state w)) else w

-- only of a service can be told where it is
abbrev pub told_by_kind : Kind → State → World → World
told_by_kind Plain state w = w
told_by_kind Service state w = told_if_own state w

abbrev pub told_last : State → World → World
told_last state w = told_by_kind w.kind state w

abbrev pub told_in : List Fifodir → List ℕ → State → Option World → List Fifodir
told_in fifodirs name state None = fifodirs
told_in fifodirs name state (Some w) = with_world fifodirs name (told_last state w)

-- with the will of one name carried out, if it has a state to tell
abbrev pub after_one : List Fifodir → List ℕ → Option State → List Fifodir
after_one fifodirs name None = fifodirs
after_one fifodirs name (Some state) = told_in fifodirs name state (world_of fifodirs name)

-- with each of the wills carried out, one after the other
abbrev pub after_wills : List Fifodir → List (List ℕ × Will) → List Fifodir
after_wills fifodirs [] = fifodirs
after_wills fifodirs (given ∷ rest) = after_wills (after_one fifodirs given.0 (state_of given.1)) rest

-- No handle is current, none is forgotten, and their subscriptions are cancelled. Then the wills are carried out, and none is left.
abbrev pub desk_after_end : Desk → Desk
desk_after_end d = record {
  fifodirs = after_wills (without_all d.fifodirs (values_of (active d))) d.wills;
  handles = map without_holding d.handles;
  wills = [];
}

-- The model of a desk: the fifodirs in the order they were made, each with its world, the handles that were given, and the wills.
use Rattle.std.specs.Prelude.{ℕ, ◌≡◌, ◌==◌, ◌+◌, Bool, true, false, if◌then◌else◌, List, [], ◌∷◌, map, nat_eq, Option, Some, None, is_some}
use Rattle.std.specs.Option.{option_and_then}
use Rattle.std.specs.Map.{lookup}
use Rattle.std.specs.Str.{bytes_eq}
use Rattle.hub_letters.specs.declared.mode.Mode.TheVariants.{Repeat}
use Rattle.hub_record.specs.World.{World, Subscription, subscription_in, after_cancel}
use Rattle.hub_local.specs.declared.local_desk.Holding.{Holding}
use Rattle.hub_local.specs.declared.local_desk.LocalListener.{LocalListener}
use Rattle.hub_requests.specs.declared.reply.Reply.{Reply}
use Rattle.hub_requests.specs.declared.reply.Reply.TheVariants.{No}
use Rattle.hub_requests.specs.declared.reply.Refusal.{Refusal}
use Rattle.hub_requests.specs.declared.will.Will.{Will}

pub record Fifodir : Type 0 where
  pub name : List ℕ
  -- whether its service reports readiness; none if it is plain
  pub reports : Option Bool
  pub world : World

-- a handle that was given: the subscription that it is for, with the hearing if it is a listener's, and whether it is
-- current
pub record Handle : Type 0 where
  pub holding : Holding
  pub current : Bool

-- the handles have the numbers 1, 2, 3, .. in order, cancelled ones too
pub record Desk : Type 0 where
  pub fifodirs : List Fifodir
  pub handles : List Handle
  -- each name with its will, in the order in which the names were first given one
  pub wills : List (List ℕ × Will)

abbrev pub new_desk : Desk
new_desk = record { fifodirs = []; handles = []; wills = [] }

-- ---- fifodirs by name

abbrev pub world_of : List Fifodir → List ℕ → Option World
world_of [] name = None
world_of (f ∷ rest) name = if bytes_eq name f.name then Some f.world else world_of rest name

-- whether the service of this name reports readiness; none if there is no such service
abbrev pub reports_of : List Fifodir → List ℕ → Option Bool
reports_of [] name = None
reports_of (f ∷ rest) name = if bytes_eq name f.name then f.reports else reports_of rest name

-- with this world under the name
abbrev pub with_world : List Fifodir → List ℕ → World → List Fifodir
with_world [] name w = []
with_world (f ∷ rest) name w = if bytes_eq name f.name then record f { world = w } ∷ rest else f ∷ with_world rest name w

-- the names, in the order in which they were made
abbrev pub names_in : List Fifodir → List (List ℕ)
names_in fifodirs = map (λ f. f.name) fifodirs

-- ---- handles by number

-- what the current handles hold, by their numbers; the first of the list has the number `from`
abbrev pub active_from : ℕ → List Handle → List (ℕ × Holding)
active_from from [] = []
active_from from (h ∷ rest) = if h.current then (from, h.holding) ∷ active_from (from + 1) rest else active_from (from + 1) rest

abbrev pub active : Desk → List (ℕ × Holding)
active d = active_from 1 d.handles

-- what the current handle with this number holds
abbrev pub holding_at : Desk → ℕ → Option Holding
holding_at d number = lookup (nat_eq number) (active d)

abbrev pub without_holding : Handle → Handle
without_holding h = record h { current = false }

-- whether it is held for a listener
abbrev pub is_listeners : Option Holding → Bool
is_listeners None = false
is_listeners (Some h) = is_some h.hearing

-- with the handle of this number cancelled
abbrev pub without_from : ℕ → List Handle → ℕ → List Handle
without_from from [] number = []
without_from from (h ∷ rest) number = if number == from then without_holding h ∷ rest else h ∷ without_from (from + 1) rest number

-- with another holding under this number
abbrev pub with_holding_from : ℕ → List Handle → ℕ → Holding → List Handle
with_holding_from from [] number h = []
with_holding_from from (x ∷ rest) number h = if number == from then record x { holding = h } ∷ rest else x ∷ with_holding_from (from + 1) rest number h

-- ---- what holds for every desk

-- the subscription of a handle
abbrev pub subscription_of : List Fifodir → Holding → Option Subscription
subscription_of fifodirs h = option_and_then (λ w. subscription_in w h.id) (world_of fifodirs h.name)

-- the subscription of each current handle is current
abbrev pub AreHeld : List Fifodir → List (ℕ × Holding) → Type 0
AreHeld fifodirs [] = Unit {0}
AreHeld fifodirs (e ∷ es) = (is_some (subscription_of fifodirs e.1) ≡ true) × AreHeld fifodirs es

-- none of these is for the same subscription
abbrev pub IsApart : Holding → List (ℕ × Holding) → Type 0
IsApart h [] = Unit {0}
IsApart h (e ∷ es) = (h.name ≡ e.1.name → h.id ≡ e.1.id → ⊥) × IsApart h es

abbrev pub AreApart : List (ℕ × Holding) → Type 0
AreApart [] = Unit {0}
AreApart (e ∷ es) = IsApart e.1 es × AreApart es

-- a listener itself goes on after a hit: the desk ends it if its handle's mode is Once
abbrev pub GoesOn : Option LocalListener → Type 0
GoesOn None = Unit {0}
GoesOn (Some hearing) = hearing.listener.mode ≡ Repeat

abbrev pub AllGoOn : List (ℕ × Holding) → Type 0
AllGoOn [] = Unit {0}
AllGoOn (e ∷ es) = GoesOn e.1.hearing × AllGoOn es

pub record IsDesk (d : Desk) : Type 0 where
  pub held : AreHeld d.fifodirs (active d)
  pub apart : AreApart (active d)
  pub go_on : AllGoOn (active d)

-- ---- an answer

-- a reply, and the desk after it
pub record Answer : Type 0 where
  pub reply : Reply
  pub desk : Desk

abbrev pub refusal_answer : Desk → Refusal → Answer
refusal_answer d refusal = record { reply = No refusal; desk = d }

-- ---- the end of a subscription

abbrev pub end_in : List Fifodir → Holding → Option World → List Fifodir
end_in fifodirs h None = fifodirs
end_in fifodirs h (Some w) = with_world fifodirs h.name (after_cancel w h.id)

-- with the subscription of a handle cancelled
abbrev pub without_held : List Fifodir → Holding → List Fifodir
without_held fifodirs h = end_in fifodirs h (world_of fifodirs h.name)

-- with the handle of this number and its subscription cancelled
abbrev pub without_handle : Desk → ℕ → Holding → Desk
without_handle d number h = record d { fifodirs = without_held d.fifodirs h; handles = without_from 1 d.handles number }

-- with each of these subscriptions cancelled
abbrev pub without_all : List Fifodir → List Holding → List Fifodir
without_all fifodirs [] = fifodirs
without_all fifodirs (h ∷ rest) = without_all (without_held fifodirs h) rest

-- What a poll answers: the letters that a listener still has to hear are heard one at a time, until there is a hit or
-- no room.
use Rattle.std.specs.Prelude.{ℕ, ◌≡◌, ◌⊎◌, ◌+◌, ◌-◌, ◌<◌, Bool, false, if◌then◌else◌, List, [], ◌++◌, length, take, drop, nat_lt, slice_get, option_to_list, Option, Some, None}
use Rattle.hub_letters.specs.declared.mode.TheConstants.{MOST_GATHERED}
use Rattle.hub_listen.specs.Hit.{HasNoHit, hit_length}
use Rattle.hub_listen.specs.Listening.{after_hit, after_quiet, fitting}
use Rattle.hub_letters.specs.declared.mode.Mode.{Mode}
use Rattle.hub_letters.specs.declared.mode.Mode.TheVariants.{Once, Repeat}
use Rattle.hub_record.specs.World.{World, Subscription, letters, is_evicted, subscription_in, after_take}
use Rattle.hub_record.specs.declared.Event.{Event}
use Rattle.hub_local.specs.Desks.{Desk, Answer, world_of, with_world, holding_at, with_holding_from, without_handle}
use Rattle.hub_local.specs.declared.local_desk.LocalListener.{LocalListener}
use Rattle.hub_local.specs.declared.local_desk.Holding.{Holding}
use Rattle.hub_requests.specs.declared.reply.Reply.{Reply}
use Rattle.hub_requests.specs.declared.reply.Reply.TheVariants.{Hit, Nothing, End, Evicted}

-- the events behind the cursor; for an evicted subscription none is kept
abbrev pub waiting_for : World → Option Subscription → List Event
waiting_for w None = []
waiting_for w (Some s) = if is_evicted w s.next then [] else drop s.next w.events

abbrev pub is_out_for : World → Option Subscription → Bool
is_out_for w None = false
is_out_for w (Some s) = is_evicted w s.next

-- whether the subscription is evicted
abbrev pub is_out : World → ℕ → Bool
is_out w id = is_out_for w (subscription_in w id)

-- the letters that a listener still has to hear: the one that it holds, and then those behind the cursor
abbrev pub to_hear : LocalListener → World → ℕ → List ℕ
to_hear g w id = option_to_list g.held ++ letters (waiting_for w (subscription_in w id))

-- the world after the first n of them were taken; the held one was taken before
abbrev pub taken_from : LocalListener → World → ℕ → ℕ → World
taken_from g w id n = after_take w id (n - length (option_to_list g.held))

-- ---- what is heard

abbrev pub heard_to_hit : LocalListener → List ℕ → ℕ → LocalListener
heard_to_hit g letters k = record g { listener = after_hit g.listener letters k; held = None }

abbrev pub heard_quietly : LocalListener → List ℕ → LocalListener
heard_quietly g letters = record g { listener = after_quiet g.listener letters; held = None }

-- with the handle's listener and the fifodir's world as they are afterwards
abbrev pub heard_on : Desk → ℕ → Holding → LocalListener → World → Desk
heard_on d number h g w = record d { fifodirs = with_world d.fifodirs h.name w; handles = with_holding_from 1 d.handles number (record h { hearing = Some g }) }

-- in mode Once, a hit ends the subscription
abbrev pub ended_by : Mode → Desk → ℕ → Holding → Desk
ended_by Once d number h = without_handle d number h
ended_by Repeat d number h = d

-- the reply where no letter completes a hit. It says more if there is room to gather further letters.
abbrev pub quiet_reply : (room out closed : Bool) → Reply
quiet_reply room out closed = if room then (if out then Evicted else (if closed then End else Nothing)) else Nothing

-- the letters that are still to be heard, and how many of them complete a hit
abbrev pub hear_answer : Desk → ℕ → Holding → LocalListener → World → List ℕ → Option ℕ → Answer
hear_answer d number h g w letters (Some k) = record {
  reply = Hit (g.listener.gathered ++ take k letters);
  desk = ended_by g.mode (heard_on d number h (heard_to_hit g letters k) (taken_from g w h.id k)) number h;
}
hear_answer d number h g w letters None = record {
  reply = quiet_reply (nat_lt (length g.listener.gathered + length letters) MOST_GATHERED) (is_out w h.id) w.closed;
  desk = heard_on d number h (heard_quietly g (take (fitting g.listener letters) letters)) (taken_from g w h.id (fitting g.listener letters));
}

abbrev pub poll_answer : Desk → ℕ → Holding → LocalListener → World → Answer
poll_answer d number h g w = hear_answer d number h g w (to_hear g w h.id) (hit_length g.listener.pattern g.listener.gathered (to_hear g w h.id))

-- ---- out of memory

-- memory ran out at the letter after the first n, which had no hit: those are gathered, and that letter is held
pub record IsStopped (d : Desk) (number : ℕ) (h : Holding) (g : LocalListener) (w : World) (n : ℕ) (new : Desk) : Type 0 where
  pub inside : n < fitting g.listener (to_hear g w h.id)
  pub none : HasNoHit g.listener.pattern g.listener.gathered (take n (to_hear g w h.id))
  pub desk : new ≡ heard_on d number h (record g { listener = after_quiet g.listener (take n (to_hear g w h.id)); held = slice_get (to_hear g w h.id) n }) (taken_from g w h.id (n + 1))

pub record WasStopped (d : Desk) (number : ℕ) (new : Desk) : Type 0 where
  pub holding : Holding
  pub hearing : LocalListener
  pub world : World
  pub count : ℕ
  pub held_is : holding_at d number ≡ Some holding
  pub hears : holding.hearing ≡ Some hearing
  pub there : world_of d.fifodirs holding.name ≡ Some world
  pub stopped : IsStopped d number holding hearing world count new

-- memory ran out there, or before anything was taken
abbrev pub LeftByPoll : Desk → ℕ → Desk → Type 0
LeftByPoll d number new = (new ≡ d) ⊎ WasStopped d number new

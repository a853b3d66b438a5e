-- What a session's listener hears of what its subscription takes.
use Rattle.std.specs.Prelude.{◌≡◌, ◌≢◌, ◌≤◌, ◌<◌, ◌⊎◌, ℕ, Bool, true, false, List, [], ◌∷◌, ◌++◌, length, Option, Some, None, Result, Ok, Err}
use Rattle.hub_letters.specs.declared.mode.TheConstants.{MOST_GATHERED}
use Rattle.hub_requests.specs.declared.reply.Refusal.TheVariants as no
use Rattle.hub_requests.specs.declared.reply.Reply.{Reply}
use Rattle.hub_requests.specs.declared.reply.Reply.TheVariants as answer
use Rattle.hub_fifodir.specs.declared.ticket.Ticket.{Ticket}
use Rattle.hub_fifodir.specs.Passes.{IsQuiet, got, ticket_next, ticket_seen, ticket_closed, is_evicted_at}
use Rattle.hub_listen.specs.Listening.{Feeds, Listening}
use Rattle.hub_listen.specs.declared.feed.Feed.{Feed}
use Rattle.hub_listen.specs.declared.feed.Feed.TheVariants.{Hit, Quiet}
use Rattle.hub_listen.specs.declared.feed.FeedError.{FeedError}
use Rattle.hub_letters.specs.declared.mode.Mode.{Mode}
use Rattle.hub_letters.specs.declared.mode.Mode.TheVariants.{Once, Repeat}
use Rattle.hub_record.specs.World.{letters}
use Rattle.hub_handles.specs.declared.session_listener.SessionListener.{SessionListener}
use Rattle.hub_handles.specs.declared.subscription.Subscription.{Subscription}
use Rattle.hub_handles.specs.Taking.{IsSameTicket}

abbrev pub mode_of : SessionListener → Mode
mode_of h = h.mode

abbrev pub subscription_in : SessionListener → Subscription
subscription_in h = h.subscription

-- a listener that hears this subscription from now on, and holds no letter
pub record BeginsHearing (subscription : Subscription) (listener : Listening) (mode : Mode) (h : SessionListener) : Type 0 where
  pub subscription_is : h.subscription ≡ subscription
  pub listener_is : h.listener ≡ listener
  pub mode_is : h.mode ≡ mode
  pub unheld : h.held ≡ None

abbrev pub held_letters : Option ℕ → List ℕ
held_letters None = []
held_letters (Some letter) = letter ∷ []

-- What was held and what its ticket took meanwhile are these letters and what is held now: each once, in order.
pub record Comes (old : SessionListener) (come : List ℕ) (new : SessionListener) : Type 0 where
  pub ticket : IsSameTicket old.subscription new.subscription
  pub mode : new.mode ≡ old.mode
  pub taken : List ℕ
  pub took : letters (got new.subscription.ticket) ≡ letters (got old.subscription.ticket) ++ taken
  pub once : held_letters old.held ++ taken ≡ come ++ held_letters new.held

-- and its listener heard them, with this answer
pub record Hears (old : SessionListener) (fed : List ℕ) (heard : Result Feed FeedError) (new : SessionListener) : Type 0 where
  pub comes : Comes old fed new
  pub feeds : Feeds old.listener fed heard new.listener

-- nothing waits for it, and the fifodir is closed
abbrev pub IsOver : Ticket → Type 0
IsOver t = (ticket_next t ≡ length (ticket_seen t)) × (ticket_closed t ≢ 0)

-- more waited for it than may, and nothing is kept for it any more
abbrev pub IsOut : Ticket → Type 0
IsOut t = is_evicted_at t (ticket_next t) ≡ true

-- a letter is held, or its ticket isn't at the end of what it has seen
abbrev pub HasMore : SessionListener → Type 0
HasMore h = (h.held ≢ None) ⊎ (ticket_next h.subscription.ticket ≢ length (ticket_seen h.subscription.ticket))

-- why no further letter is heard
abbrev pub Stops : Reply → SessionListener → Type 0
Stops answer.Nothing h = (h.held ≡ None) × IsQuiet h.subscription.ticket
Stops answer.End h = (h.held ≡ None) × IsOver h.subscription.ticket
Stops answer.Evicted h = (h.held ≡ None) × IsOut h.subscription.ticket
Stops (answer.No refusal) h = (refusal ≡ no.Memory) × (h.held ≢ None)
Stops _ h = ⊥

-- the letter that is to be heard next, or why there is none
abbrev pub Gives : SessionListener → Result ℕ Reply → SessionListener → Type 0
Gives old (Ok letter) new = Comes old (letter ∷ []) new × (new.held ≡ None)
Gives old (Err reply) new = Comes old [] new × Stops reply new

-- one letter was heard, and did or didn't complete a hit
abbrev pub HearsOne : SessionListener → Bool → SessionListener → Type 0
HearsOne old true new = (letter : ℕ) × Hears old (letter ∷ []) (Ok (Hit 1)) new × (new.held ≡ None)
HearsOne old false new = (letter : ℕ) × Hears old (letter ∷ []) (Ok Quiet) new × (new.held ≡ None)

-- it may gather a further letter
abbrev pub HasRoom : SessionListener → Type 0
HasRoom h = length h.listener.gathered < MOST_GATHERED

-- all that came was heard quietly
abbrev pub HearsQuietly : SessionListener → SessionListener → Type 0
HearsQuietly old new = (fed : List ℕ) × Hears old fed (Ok Quiet) new

-- A hit ends with the last letter that was heard. Without one all were heard quietly, until no further one is heard, or
-- until as many are gathered as may be, and then none is held.
abbrev pub Polls : SessionListener → Reply → SessionListener → Type 0
Polls old (answer.Hit hit) new = (fed : List ℕ) × Hears old fed (Ok (Hit (length fed))) new × (hit ≡ new.listener.hit) × (new.held ≡ None)
Polls old answer.Nothing new = HasRoom old × HearsQuietly old new × ((HasRoom new × Stops answer.Nothing new) ⊎ ((MOST_GATHERED ≤ length new.listener.gathered) × (new.held ≡ None)))
Polls old answer.End new = HasRoom new × HearsQuietly old new × Stops answer.End new
Polls old answer.Evicted new = HasRoom new × HearsQuietly old new × Stops answer.Evicted new
Polls old (answer.No refusal) new =
    ((refusal ≡ no.Overlong) × (MOST_GATHERED ≤ length old.listener.gathered) × (new ≡ old))
    ⊎ ((refusal ≡ no.Memory) × HasRoom new × HearsQuietly old new × HasMore new)
Polls old _ new = ⊥

-- the one hit of mode Once is the last reply
abbrev pub is_once : Mode → Bool
is_once Once = true
is_once Repeat = false

abbrev pub ends_by : Mode → Reply → Bool
ends_by mode (answer.Hit hit) = is_once mode
ends_by mode _ = false

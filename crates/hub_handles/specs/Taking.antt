-- What a session takes by a ticket.
use Rattle.std.specs.Prelude.{◌≡◌, ◌≢◌, ◌⊎◌, ℕ, List, [], ◌∷◌, length, Result, Ok, Err}
use Rattle.std.specs.Arc.{arc_value}
use Rattle.hub_requests.specs.declared.reply.Reply.{Reply}
use Rattle.hub_requests.specs.declared.reply.Reply.TheVariants as answer
use Rattle.hub_requests.specs.declared.reply.Refusal.TheVariants as no
use Rattle.hub_fifodir.specs.declared.fifodir.Fifodir.{Fifodir}
use Rattle.hub_fifodir.specs.declared.ticket.Ticket.{Ticket}
use Rattle.hub_fifodir.specs.Passes.{HasSubscribed, HasTaken, got, sent_on, ticket_id, ticket_mark, ticket_next, ticket_seen, ticket_sight}
use Rattle.hub_fifodir.specs.Steps.{Grows}
use Rattle.hub_record.specs.declared.Event.{Event}
use Rattle.hub_record.specs.declared.Taken.TheVariants.{Got, Nothing, End, Evicted}
use Rattle.hub_handles.specs.declared.subscription.Subscription.{Subscription}

-- the letters that are answered are those of the events that the ticket took, at most so many
abbrev pub Shows : ℕ → Ticket → Reply → Ticket → Type 0
Shows max old (answer.Got letters) new = (n : ℕ) × HasTaken old max (Got n) new × (letters ≡ sent_on old (Got n) new)
Shows max old answer.Nothing new = HasTaken old max Nothing new
Shows max old answer.End new = HasTaken old max End new
Shows max old answer.Evicted new = HasTaken old max Evicted new
Shows max old _ new = ⊥

-- the name that it was asked for by
abbrev pub name_of : Subscription → List ℕ
name_of s = s.name.value

-- its fifodir
abbrev pub fifodir_of : Subscription → Fifodir
fifodir_of s = arc_value s.dir

-- the record, as far as its ticket has seen it
abbrev pub seen_of : Subscription → List Event
seen_of s = ticket_seen s.ticket

-- an event waits for it
abbrev pub HasPending : Subscription → Type 0
HasPending s = ticket_next s.ticket ≢ length (seen_of s)

-- it is the same ticket, of the same fifodir by the same name, and has seen no less
pub record IsSameTicket (old new : Subscription) : Type 0 where
  pub named : name_of new ≡ name_of old
  pub dir : new.dir ≡ old.dir
  pub id : ticket_id new.ticket ≡ ticket_id old.ticket
  pub mark : ticket_mark new.ticket ≡ ticket_mark old.ticket
  pub seen : Grows (ticket_sight old.ticket) (ticket_sight new.ticket)

-- it only looked: it goes on at the same event, and has taken no more
pub record HasLooked (old new : Subscription) : Type 0 where
  pub same : IsSameTicket old new
  pub next : ticket_next new.ticket ≡ ticket_next old.ticket
  pub got : got new.ticket ≡ got old.ticket

pub record TakesFrom (max : ℕ) (old : Subscription) (reply : Reply) (new : Subscription) : Type 0 where
  pub same : IsSameTicket old new
  pub shows : Shows max old.ticket reply new.ticket

-- there is no memory for the reply: it only looked, and an event waits
pub record LacksMemory (old : Subscription) (reply : Reply) (new : Subscription) : Type 0 where
  pub looked : HasLooked old new
  pub waits : HasPending new
  pub refused : reply ≡ answer.No no.Memory

abbrev pub Takes : ℕ → Subscription → Reply → Subscription → Type 0
Takes max old reply new = TakesFrom max old reply new ⊎ LacksMemory old reply new

-- a letter, or the answer where there is none
abbrev pub TakesOne : Subscription → Result ℕ Reply → Subscription → Type 0
TakesOne old (Ok letter) new = TakesFrom 1 old (answer.Got (letter ∷ [])) new
TakesOne old (Err answer.Nothing) new = TakesFrom 1 old answer.Nothing new
TakesOne old (Err answer.End) new = TakesFrom 1 old answer.End new
TakesOne old (Err answer.Evicted) new = TakesFrom 1 old answer.Evicted new
TakesOne old (Err _) new = ⊥

-- a subscription by this name that begins now, at the end of what its ticket has seen
pub record Begins (name : List ℕ) (fifodir : Fifodir) (s : Subscription) : Type 0 where
  pub named : name_of s ≡ name
  pub dir : arc_value s.dir ≡ fifodir
  pub begun : HasSubscribed s.ticket

-- What contracts say about a fifodir and its passes.
use Rattle.std.specs.Prelude.{◌≡◌, ◌≢◌, ℕ, ◌+◌, ◌-◌, ◌<◌, ◌≤◌, ◌++◌, ◌⊎◌, ◌&&◌, Bool, true, false, min, length, drop, List, [], Option, Some, None, Result, Ok, Err, take}
use Rattle.atomic_table.specs.Seated.{TableId}
use Rattle.hub_letters.specs.Flags.{flags_of}
use Rattle.hub_letters.specs.declared.state.State.{State}
use Rattle.hub_letters.specs.States.{word_behind}
use Rattle.hub_record.specs.declared.Event.{Event}
use Rattle.hub_record.specs.declared.Kind.{Kind}
use Rattle.hub_record.specs.declared.limits.Limits.{Limits}
use Rattle.hub_record.specs.declared.limits.Policy.{Policy}
use Rattle.hub_record.specs.declared.limits.Policy.TheVariants.{Hold, Evict}
use Rattle.hub_record.specs.declared.Status.{Status}
use Rattle.hub_record.specs.declared.Taken.{Taken}
use Rattle.hub_record.specs.declared.Taken.TheVariants.{Got, Nothing, End, Evicted}
use Rattle.hub_record.specs.declared.PubError.{PubError}
use Rattle.hub_record.specs.declared.SubError.{SubError}
use Rattle.hub_record.specs.declared.PubError.TheVariants as post
use Rattle.hub_record.specs.declared.SubError.TheVariants as sub
use Rattle.hub_record.specs.declared.limits.TheConstants.{MOST_PASSES}
use Rattle.hub_record.specs.World.{letters, as_events, last_publisher, is_slow, evicts, IsLawfulIn, IsUnlawfulIn}
use Rattle.hub_fifodir.specs.declared.PassError.{PassError}
use Rattle.hub_fifodir.specs.declared.PassError.TheVariants as pass
use Rattle.hub_fifodir.specs.declared.views.Rules.{Rules}
use Rattle.hub_fifodir.specs.declared.views.Sight.{Sight}
use Rattle.hub_fifodir.specs.declared.views.Role.{Role}
use Rattle.hub_fifodir.specs.declared.fifodir.Fifodir.{Fifodir}
use Rattle.hub_fifodir.specs.declared.publisher.Publisher.{Publisher}
use Rattle.hub_fifodir.specs.declared.ticket.Ticket.{Ticket}
use Rattle.hub_fifodir.specs.declared.bell.Waiter.{Waiter}
use Rattle.hub_fifodir.specs.declared.bell.Heard.{Heard}
use Rattle.hub_fifodir.specs.declared.bell.Looked.{Looked}
use Rattle.hub_fifodir.specs.declared.locked.Locked.{Locked}
use Rattle.hub_fifodir.specs.declared.usage.Usage.{Usage}
use Rattle.hub_fifodir.specs.Locks.{usage_of}
use Rattle.hub_fifodir.specs.Events.{slice, is_closed}
use Rattle.hub_fifodir.specs.Rule.{IsBehind, IsBounded, IsSound, book_of, sight}
use Rattle.hub_fifodir.specs.Steps.{M, Grows, KnowsOwnClose, mine_of, got_of}

-- ---- a fifodir

abbrev pub table_of : Fifodir → TableId
table_of f = f.table.shared.table_id

abbrev pub rules_of : Fifodir → Rules
rules_of f = f.rules

abbrev pub kind_of : Fifodir → Kind
kind_of f = f.rules.kind

abbrev pub limits_of : Fifodir → Limits
limits_of f = f.rules.limits

-- the table of the fifodir that a waiter waits for
abbrev pub table_of_waiter : Waiter → TableId
table_of_waiter w = w.seat.table_id

-- the table of the fifodir whose waiter heard the bell
abbrev pub table_heard : Heard → TableId
table_heard h = table_of_waiter h.waiter.value

-- how often the bell had rung when a waiter heard it, before it looks and after
abbrev pub rings_heard : Heard → ℕ
rings_heard h = h.rings

abbrev pub rings_looked : Looked → ℕ
rings_looked l = l.rings

-- and how often it had rung urgently
abbrev pub urgent_heard : Heard → ℕ
urgent_heard h = h.urgent

abbrev pub urgent_looked : Looked → ℕ
urgent_looked l = l.urgent

-- The fifodir's lock once had this record, and these publishers, and so much was there. The record is sound, and of the fifodir's
-- kind and limits.
pub record IsUsage (f : Fifodir) (usage : Usage) : Type 0 where
  pub log : List Event
  pub mark : ℕ
  pub locked : Locked
  pub behind : IsBehind (rules_of f) log mark locked
  pub bounded : IsBounded (book_of locked)
  pub is : usage ≡ usage_of locked behind.world

-- ---- passes

-- what a contract sees of a publisher or a ticket
pub record PassView : Type 0 where
  -- the table of its fifodir, and that fifodir's kind and limits
  pub table : TableId
  pub rules : Rules
  -- a publisher's number, or a ticket's id
  pub number : ℕ
  -- a ticket's mark, and the number of the event that it takes next
  pub place : Option (ℕ × ℕ)
  -- what it has done as a publisher or a ticket
  pub role : Role
  -- what it has seen of the record
  pub sight : Sight

-- this fifodir made the pass, and the pass has its kind and limits
abbrev pub IsOf : Fifodir → PassView → Type 0
IsOf f p = (p.table ≡ table_of f) × (p.rules ≡ rules_of f)

-- what it has seen is within the total, and is lawful if the fifodir is a service's
abbrev pub HasSoundSight : PassView → Type 0
HasSoundSight p = IsSound p.rules p.sight.seen

-- after each call of a fifodir on a pass
pub record Remains (f : Fifodir) (old new : PassView) : Type 0 where
  pub of : IsOf f new
  pub number : new.number ≡ old.number
  pub sound : HasSoundSight new
  pub seen : Grows old.sight new.sight

-- it is the same pass, which did nothing but look; if it closed the record itself, it had seen that before
pub record OnlyLooks (old new : PassView) : Type 0 where
  pub table : new.table ≡ old.table
  pub rules : new.rules ≡ old.rules
  pub number : new.number ≡ old.number
  pub place : new.place ≡ old.place
  pub role : new.role ≡ old.role
  pub own : KnowsOwnClose old.role old.sight new.sight

-- ---- publishers

abbrev pub publisher_number : Publisher → ℕ
publisher_number p = p.number

abbrev pub publisher_view : Publisher → PassView
publisher_view p = record { table = p.seat.at.table_id; rules = p.seat.at.me.0.rules; number = p.number; place = None; role = p.seat.at.me.0.role; sight = p.seat.at.me.0.sight }

abbrev pub IsPublisherOf : Fifodir → Publisher → Type 0
IsPublisherOf f p = IsOf f (publisher_view p)

abbrev pub publisher_sight : Publisher → Sight
publisher_sight p = (publisher_view p).sight

abbrev pub seen_by : Publisher → List Event
seen_by p = (publisher_sight p).seen

-- 0, or the number of the publisher that closed
abbrev pub closed_mark : Publisher → ℕ
closed_mark p = (publisher_sight p).closed

abbrev pub mine : Publisher → List ℕ
mine p = mine_of (publisher_view p).role

-- ---- tickets

abbrev pub ticket_id : Ticket → ℕ
ticket_id t = t.id

-- the number of events when it subscribed
abbrev pub ticket_mark : Ticket → ℕ
ticket_mark t = t.mark

-- the number of the event that it takes next
abbrev pub ticket_next : Ticket → ℕ
ticket_next t = t.next

abbrev pub ticket_view : Ticket → PassView
ticket_view t = record { table = t.seat.at.table_id; rules = t.seat.at.me.0.rules; number = t.id; place = Some (t.mark, t.next); role = t.seat.at.me.0.role; sight = t.seat.at.me.0.sight }

abbrev pub IsTicketOf : Fifodir → Ticket → Type 0
IsTicketOf f t = IsOf f (ticket_view t)

abbrev pub ticket_sight : Ticket → Sight
ticket_sight t = (ticket_view t).sight

abbrev pub ticket_seen : Ticket → List Event
ticket_seen t = (ticket_sight t).seen

abbrev pub ticket_closed : Ticket → ℕ
ticket_closed t = (ticket_sight t).closed

abbrev pub got : Ticket → List Event
got t = got_of (ticket_view t).role

abbrev pub ticket_rules : Ticket → Rules
ticket_rules t = (ticket_view t).rules

-- ---- what a pass has seen after a call

-- the status of what it has seen
abbrev pub IsStatusOf : Status → Sight → Type 0
IsStatusOf s t = (s.number ≡ length t.seen) × (s.flags ≡ flags_of (letters t.seen)) × (s.closed ≡ is_closed t.closed)

-- if the publisher itself had closed the record, it had seen that before
abbrev pub KnewOwnClose : Publisher → Publisher → Type 0
KnewOwnClose old new = closed_mark new ≡ publisher_number new → closed_mark old ≢ 0

-- a message was accepted: it is last in what is seen now
abbrev pub HasPublished : Publisher → List ℕ → ℕ → Publisher → Type 0
HasPublished old message n new = (closed_mark new ≡ 0) × (n + length message ≡ length (seen_by new)) × (mine new ≡ mine old ++ message)
    × ((others : List Event) × (seen_by new ≡ (seen_by old ++ others) ++ as_events (publisher_number old) message))

-- how many events have to be kept at once after n more, at most: all, or n alone if others may be evicted
abbrev pub most_needed : Policy → (seen n : ℕ) → ℕ
most_needed Hold seen n = seen + n
most_needed Evict seen n = n

-- why a message was refused, by what the publisher has then seen
abbrev pub IsRefusedBy : Rules → Sight → List ℕ → PubError → Type 0
IsRefusedBy rules s message post.Closed = s.closed ≢ 0
IsRefusedBy rules s message (post.Unlawful i) = (s.closed ≡ 0) × IsUnlawfulIn rules.kind (letters s.seen) message i
IsRefusedBy rules s message post.Spent = (s.closed ≡ 0) × IsLawfulIn rules.kind (letters s.seen ++ message) × (rules.limits.total < length s.seen + length message)
IsRefusedBy rules s message post.Full = (s.closed ≡ 0) × IsLawfulIn rules.kind (letters s.seen ++ message) × (length s.seen + length message ≤ rules.limits.total)
    × (0 < length message) × (rules.limits.waiting < most_needed rules.limits.policy (length s.seen) (length message))

abbrev pub IsRefusedAt : Publisher → List ℕ → PubError → Type 0
IsRefusedAt p message e = IsRefusedBy (publisher_view p).rules (publisher_sight p) message e

-- A seat that had the lock added a message of the publisher n, and released the lock. If the message was refused, it changed nothing.
abbrev pub HasAdded : M → ℕ → List ℕ → Result ℕ PubError → M → Type 0
HasAdded m n message (Ok first) m' = (m.0.sight.closed ≡ 0) × (first ≡ length m.0.sight.seen) × (m'.0.rules ≡ m.0.rules)
    × (m'.0.sight ≡ sight (m.0.sight.seen ++ as_events n message) 0) × (mine_of m'.0.role ≡ mine_of m.0.role ++ message)
HasAdded m n message (Err e) m' = (m'.0.rules ≡ m.0.rules) × (m'.0.sight ≡ m.0.sight) × (m'.0.role ≡ m.0.role) × IsRefusedBy m.0.rules m.0.sight message e

-- the word for a state behind the first n events that a publisher has seen
abbrev pub word_told : State → ℕ → Publisher → List ℕ
word_told state n p = word_behind state (letters (take n (seen_by p)))

-- the word for a state behind all that a publisher has seen
abbrev pub word_to_tell : State → Publisher → List ℕ
word_to_tell state p = word_behind state (letters (seen_by p))

-- the last event that a publisher has seen is its own
abbrev pub IsLast : Publisher → Type 0
IsLast p = last_publisher (seen_by p) ≡ Some (publisher_number p)

-- the last of the first n events that a publisher has seen is its own
abbrev pub WasLast : ℕ → Publisher → Type 0
WasLast n p = last_publisher (take n (seen_by p)) ≡ Some (publisher_number p)

-- a ticket begins at the end of what it has seen
abbrev pub HasSubscribed : Ticket → Type 0
HasSubscribed t = (ticket_mark t ≡ length (ticket_seen t)) × (ticket_next t ≡ ticket_mark t) × (got t ≡ [])

-- There are many subscriptions only if so many ids may be given. Of the other reasons nothing is said: at any time another thread
-- may close a fifodir or use up its ids, and memory may run out.
abbrev pub MayRefuseBy : Limits → SubError → Type 0
MayRefuseBy limits sub.Many = MOST_PASSES ≤ limits.ids
MayRefuseBy limits e = Unit {0}

-- The same of publishers, whose numbers are as many as the ids that may be given.
abbrev pub MayRefuseNumber : Limits → PassError → Type 0
MayRefuseNumber limits pass.Many = MOST_PASSES ≤ limits.ids
MayRefuseNumber limits e = Unit {0}

-- why there is no publisher
abbrev pub MayRefusePublisher : Fifodir → PassError → Type 0
MayRefusePublisher f e = MayRefuseNumber (limits_of f) e

-- why there is no ticket
abbrev pub MayRefuseTicket : Fifodir → SubError → Type 0
MayRefuseTicket f e = MayRefuseBy (limits_of f) e

-- whether a ticket with this next is evicted, by what it has seen: the policy is Evict, and more is pending than may be
abbrev pub is_evicted_by : Rules → Sight → ℕ → Bool
is_evicted_by rules s next = evicts rules.limits.policy && is_slow rules.limits.waiting (length s.seen) next

abbrev pub is_evicted_at : Ticket → ℕ → Bool
is_evicted_at t next = is_evicted_by (ticket_rules t) (ticket_sight t) next

-- what waits from this number on, for this many places, by what the ticket has seen
abbrev pub Finds : Ticket → ℕ → ℕ → Taken → Type 0
Finds t next most (Got n) = (next < length (ticket_seen t)) × (n ≡ min most (length (ticket_seen t) - next)) × (is_evicted_at t next ≡ false)
Finds t next most Nothing = (next ≡ length (ticket_seen t)) × (ticket_closed t ≡ 0)
Finds t next most End = (next ≡ length (ticket_seen t)) × (ticket_closed t ≢ 0)
Finds t next most Evicted = is_evicted_at t next ≡ true

-- a ticket goes on behind what it found
abbrev pub GoesOn : Ticket → Taken → Ticket → Type 0
GoesOn old (Got n) new = (ticket_next new ≡ ticket_next old + n) × (got new ≡ got old ++ slice (ticket_next old) (ticket_next old + n) (ticket_seen new))
GoesOn old _ new = (ticket_next new ≡ ticket_next old) × (got new ≡ got old)

-- what a take into this many places reports, by what the ticket has then seen
abbrev pub HasTaken : Ticket → ℕ → Taken → Ticket → Type 0
HasTaken old most taken new = Finds new (ticket_next old) most taken × GoesOn old taken new

-- a take has something to report: an event is pending, or the record is closed. An evicted ticket always has events pending.
abbrev pub HasMore : Ticket → Type 0
HasMore t = (ticket_next t ≢ length (ticket_seen t)) ⊎ (ticket_closed t ≢ 0)

-- a take has nothing to report
abbrev pub IsQuiet : Ticket → Type 0
IsQuiet t = (ticket_next t ≡ length (ticket_seen t)) × (ticket_closed t ≡ 0)

-- the slice after that take
abbrev pub slice_after_take : Ticket → Taken → Ticket → List Event → List Event
slice_after_take old (Got n) new out = slice (ticket_next old) (ticket_next old + n) (ticket_seen new) ++ drop n out
slice_after_take old Nothing new out = out
slice_after_take old End new out = out
slice_after_take old Evicted new out = out

-- the letters of what was taken
abbrev pub sent_on : Ticket → Taken → Ticket → List ℕ
sent_on old (Got n) new = letters (slice (ticket_next old) (ticket_next old + n) (ticket_seen new))
sent_on old Nothing new = []
sent_on old End new = []
sent_on old Evicted new = []

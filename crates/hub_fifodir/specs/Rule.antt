-- The rule of the table: there is one history, and each seat has seen a prefix of it.
use Rattle.std.specs.Prelude.{◌≡◌, ◌≢◌, ◌⊎◌, ℕ, ◌+◌, ◌≤◌, ◌<◌, List, [], ◌∷◌, length, Option, Some, None, Bool, true, false, not, nat_eq}
use Rattle.std.specs.Map.{lookup}
use mathlib.Core.Option as maybe
use lib.ListN.{get_elem?}
use Rattle.atomic_table.specs.Table.{State}
use Rattle.hub_record.specs.declared.Event.{Event}
use Rattle.hub_record.specs.declared.Kind.TheVariants.{Plain}
use Rattle.hub_record.specs.declared.limits.Policy.TheVariants.{Hold}
use Rattle.hub_record.specs.World.{World, least_limits, letters, IsLawfulIn}
use Rattle.hub_record.specs.Runs.{by}
use Rattle.hub_fifodir.specs.declared.views.Rules.{Rules}
use Rattle.hub_fifodir.specs.declared.views.Book.{Book}
use Rattle.hub_fifodir.specs.declared.views.Taking.{Taking}
use Rattle.hub_fifodir.specs.declared.views.Writing.{Writing}
use Rattle.hub_fifodir.specs.declared.views.Sight.{Sight}
use Rattle.hub_fifodir.specs.declared.views.View.{View}
use Rattle.hub_fifodir.specs.declared.views.Role.{Role}
use Rattle.hub_fifodir.specs.declared.views.Role.TheVariants.{Visitor, Ticket, Publisher, Spent}
use Rattle.hub_fifodir.specs.declared.locked.Locked.{Locked}
use Rattle.hub_fifodir.specs.Events.{StartsWith, slice, is_closed, front_word}
use Rattle.hub_fifodir.specs.Locks.{RepresentsWorld, is_current}

-- ---- views

abbrev pub sight : List Event → ℕ → Sight
sight seen closed = record { seen = seen; closed = closed }

abbrev pub view : Rules → Sight → Role → Option Book → Option Sight → View
view rules at role held met = record { rules = rules; sight = at; role = role; held = held; met = met }

-- a seat that doesn't hold the lock and has joined no note
abbrev pub resting : Rules → Sight → Role → View
resting rules at role = view rules at role None None

abbrev pub visitor : Rules → List Event → ℕ → View
visitor rules seen closed = resting rules (sight seen closed) Visitor

-- a seat that is spent has nothing of any fifodir
abbrev pub spent_view : View
spent_view = resting (record { kind = Plain; limits = least_limits }) (sight [] 0) Spent

abbrev pub IsLive : Role → Type 0
IsLive Spent = ⊥
IsLive _ = Unit {0}

-- what a view shows by itself
abbrev pub IsSane : List Event → Role → Type 0
IsSane seen (Ticket t) = (t.mark ≤ t.next) × (t.next ≤ length seen) × (t.got ≡ slice t.mark t.next seen)
IsSane seen (Publisher p) = by p.number seen ≡ p.mine
IsSane seen _ = Unit {0}

abbrev pub HasId : ℕ → Role → Type 0
HasId i (Ticket t) = t.id ≡ i
HasId i _ = ⊥

abbrev pub IsNumbered : ℕ → Role → Type 0
IsNumbered n (Publisher p) = p.number ≡ n
IsNumbered n _ = ⊥

-- ---- the state that the rule is about

abbrev pub cursor_of : List (ℕ × ℕ) → ℕ → Option ℕ
cursor_of cursors id = lookup (nat_eq id) cursors

-- one of the ids, or numbers, that were given: they run from 1
abbrev pub IsGiven : ℕ → ℕ → Type 0
IsGiven n most = (0 < n) × (n ≤ most)

-- only ids that were given have cursors, and only numbers that were given are current
pub record IsBounded (book : Book) : Type 0 where
  pub cursors : (i next : ℕ) → cursor_of book.cursors i ≡ Some next → IsGiven i book.ids
  pub active : (n : ℕ) → is_current book.active n ≡ true → IsGiven n book.numbers

-- with the policy Hold, no more events are pending behind a cursor than may be
abbrev pub HoldsPending : Rules → List Event → Book → Type 0
HoldsPending rules log book = rules.limits.policy ≡ Hold → (i next : ℕ) → cursor_of book.cursors i ≡ Some next → length log ≤ next + rules.limits.waiting

-- free, with the locked value in its slot, or taken by a seat
pub data LockState (B : Type 0) : Type 0 where
  free : B → LockState B
  held_by : ℕ → LockState B

module _ {B : Type 0} where
  abbrev pub lock_word : LockState B → ℕ
  lock_word (free b) = 0
  lock_word (held_by j) = 1

  abbrev pub home : LockState B → maybe.Option (Option B)
  home (free b) = maybe.some (Some b)
  home (held_by j) = maybe.none

-- the record with its closed mark, and the state; ticket_at says which seat has an id, and writer_at which seat has a
-- publisher's number
pub record Account (B : Type 0) : Type 0 where
  pub log : List Event
  pub mark : ℕ
  pub book : Book
  pub lock : LockState B
  pub ticket_at : ℕ → ℕ
  pub writer_at : ℕ → ℕ

-- a prefix of the record, and all of it if the close was seen
abbrev pub IsPart : List Event → ℕ → Sight → Type 0
IsPart log mark s = StartsWith log s.seen × (s.closed ≢ 0 → (s.seen ≡ log) × (s.closed ≡ mark))

abbrev pub IsPartIfAny : List Event → ℕ → Option Sight → Type 0
IsPartIfAny log mark None = Unit {0}
IsPartIfAny log mark (Some s) = IsPart log mark s

abbrev pub cursor_if : Bool → ℕ → Option ℕ
cursor_if true next = None
cursor_if false next = Some next

-- a ticket's seat, compared with the cursors
pub record IsTicket (book : Book) (ticket_at : ℕ → ℕ) (j : ℕ) (seen : List Event) (t : Taking) : Type 0 where
  pub its_seat : ticket_at t.id ≡ j
  pub given : IsGiven t.id book.ids
  pub sane : IsSane seen (Ticket t)
  pub cursor : cursor_of book.cursors t.id ≡ cursor_if t.gone t.next

-- a publisher's seat, compared with the record
pub record IsPublisher (book : Book) (log : List Event) (writer_at : ℕ → ℕ) (j : ℕ) (seen : List Event) (p : Writing) : Type 0 where
  pub its_seat : writer_at p.number ≡ j
  pub given : IsGiven p.number book.numbers
  pub all : by p.number log ≡ p.mine
  pub known : by p.number seen ≡ p.mine
  pub active : is_current book.active p.number ≡ not p.gone

abbrev pub InRole : Book → List Event → (ℕ → ℕ) → (ℕ → ℕ) → ℕ → List Event → Role → Type 0
InRole book log ticket_at writer_at j seen (Ticket t) = IsTicket book ticket_at j seen t
InRole book log ticket_at writer_at j seen (Publisher p) = IsPublisher book log writer_at j seen p
InRole book log ticket_at writer_at j seen _ = Unit {0}

module _ {B : Type 0} (rules : Rules) (a : Account B) where
  -- a seat that has the lock has seen the whole record, and knows the state
  abbrev pub Holds : ℕ → Sight → Option Book → Type 0
  Holds j s None = Unit {0}
  Holds j s (Some b) = (a.lock ≡ held_by j) × (b ≡ a.book) × (s ≡ sight a.log a.mark)

  pub record IsSeat (j : ℕ) (v : View) : Type 0 where
    pub ruled : v.rules ≡ rules
    pub part : IsPart a.log a.mark v.sight
    pub met_part : IsPartIfAny a.log a.mark v.met
    pub holds : Holds j v.sight v.held
    pub in_role : InRole a.book a.log a.ticket_at a.writer_at j v.sight.seen v.role

  abbrev pub IsSeatOr : ℕ → View → Role → Type 0
  IsSeatOr j v Spent = Unit {0}
  IsSeatOr j v r = IsSeat j v

  abbrev pub Fits : ℕ → View → Type 0
  Fits j v = IsSeatOr j v v.role

abbrev pub HasSeen : Sight → View → Type 0
HasSeen s v = IsLive v.role × ((v.sight ≡ s) ⊎ (v.met ≡ Some s))

abbrev pub HasHeld : Book → View → Type 0
HasHeld book v = IsLive v.role × (v.held ≡ Some book)

abbrev pub HasClosed : ℕ → List Event → View → Type 0
HasClosed mark log v = IsNumbered mark v.role × (v.sight ≡ sight log mark)

-- the fact holds for some view
abbrev pub Somewhere : List View → (View → Type 0) → Type 0
Somewhere views P = (j : ℕ) × (v : View) × (get_elem? views j ≡ maybe.some v) × P v

abbrev pub At : List View → ℕ → (View → Type 0) → Type 0
At views j P = (v : View) × (get_elem? views j ≡ maybe.some v) × P v

module _ {B : Type 0} (book_of : B → Book) (represents : Rules → List Event → ℕ → B → Type 0) (sound : Rules → List Event → Type 0) where
  abbrev pub IsHome : Rules → Account B → LockState B → List View → Type 0
  IsHome rules a (free b) views = represents rules a.log a.mark b × (book_of b ≡ a.book)
  IsHome rules a (held_by j) views = At views j (HasHeld a.book)

  pub record Ordered (rules : Rules) (s : State (Option B) View) : Type 0 where
    pub a : Account B
    pub words_are : s.words ≡ front_word a.log a.mark ∷ lock_word a.lock ∷ []
    pub homes_are : s.homes ≡ home a.lock ∷ []
    pub is_sound : sound rules a.log
    pub bounded : IsBounded a.book
    pub pending : HoldsPending rules a.log a.book
    pub locked : IsHome rules a a.lock s.views
    pub each : (j : ℕ) (v : View) → get_elem? s.views j ≡ maybe.some v → Fits rules a j v
    -- some seat has seen the whole record, and the publisher that closed it has
    pub reached : Somewhere s.views (HasSeen (sight a.log a.mark))
    pub closer : a.mark ≢ 0 → At s.views (a.writer_at a.mark) (HasClosed a.mark a.log)
    -- each event, each id and each number that was given has its seat
    pub authors : (k : ℕ) (e : Event) → get_elem? a.log k ≡ maybe.some e → IsGiven e.who a.book.numbers
    pub tickets : (i : ℕ) → IsGiven i a.book.ids → At s.views (a.ticket_at i) (λ v. HasId i v.role)
    pub writers : (n : ℕ) → IsGiven n a.book.numbers → At s.views (a.writer_at n) (λ v. IsNumbered n v.role)

-- ---- the rule of a fifodir

abbrev pub book_of : Locked → Book
book_of b = record { cursors = b.kept.value.cursors; ids = b.kept.value.given; active = b.active.keys; numbers = b.given }

-- while the lock is free: the locked value represents a world with this history
pub record IsBehind (rules : Rules) (log : List Event) (mark : ℕ) (b : Locked) : Type 0 where
  pub world : World
  pub for : RepresentsWorld b world
  pub events : world.events ≡ log
  pub closed : world.closed ≡ is_closed mark
  pub kind : world.kind ≡ rules.kind
  pub limits : world.limits ≡ rules.limits

abbrev pub IsSound : Rules → List Event → Type 0
IsSound rules log = (length log ≤ rules.limits.total) × IsLawfulIn rules.kind (letters log)

abbrev pub RuleHolds : Rules → State (Option Locked) View → Type 0
RuleHolds = Ordered book_of IsBehind IsSound

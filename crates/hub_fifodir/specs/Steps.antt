-- What each kind of step shows its seat.
use Rattle.std.specs.Prelude.{◌≡◌, ◌≢◌, ℕ, List, [], ◌∷◌, ◌++◌, ◌⊎◌, ◌<◌, ◌≤◌, ◌==◌, ◌+◌, cond, not, length, Option, Some, None, true, false}
use Rattle.atomic_table.specs.Table.{Me, Step}
use Rattle.hub_record.specs.declared.Event.{Event}
use Rattle.hub_record.specs.World.{as_events}
use Rattle.hub_record.specs.Runs.{by}
use Rattle.hub_fifodir.specs.declared.views.Rules.{Rules}
use Rattle.hub_fifodir.specs.declared.views.Book.{Book}
use Rattle.hub_fifodir.specs.declared.views.Taking.{Taking}
use Rattle.hub_fifodir.specs.declared.views.Writing.{Writing}
use Rattle.hub_fifodir.specs.declared.views.Sight.{Sight}
use Rattle.hub_fifodir.specs.declared.views.View.{View}
use Rattle.hub_fifodir.specs.declared.views.Role.{Role}
use Rattle.hub_fifodir.specs.declared.views.Role.TheVariants.{Note, Ticket, Publisher}
use Rattle.hub_fifodir.specs.declared.locked.Locked.{Locked}
use Rattle.hub_fifodir.specs.Events.{StartsWith, slice, front_word}
use Rattle.hub_fifodir.specs.Locks.{is_current}
use Rattle.hub_fifodir.specs.Rule.{sight, view, resting, visitor, IsLive, IsSane, HasId, IsNumbered, cursor_of, cursor_if, IsGiven, IsBounded, HoldsPending, InRole, book_of, IsBehind, IsSound}

-- ---- what a seat learns

-- what was seen is a prefix of what is seen now, and is all of it if the close was seen
abbrev pub Grows : Sight → Sight → Type 0
Grows s t = StartsWith t.seen s.seen × (s.closed ≢ 0 → t ≡ s)

abbrev pub GrowsIfAny : Option Sight → Sight → Type 0
GrowsIfAny None t = Unit {0}
GrowsIfAny (Some s) t = Grows s t

-- if the seat's publisher closed the record, it had seen that before
abbrev pub KnowsOwnClose : Role → Sight → Sight → Type 0
KnowsOwnClose r s t = (n : ℕ) → IsNumbered n r → t.closed ≡ n → n ≢ 0 → s ≡ t

-- no number above the count has published or closed
pub record IsFresh (book : Book) (s : Sight) : Type 0 where
  pub silent : (n : ℕ) → book.numbers < n → by n s.seen ≡ []
  pub closed : s.closed ≤ book.numbers

-- a ticket has its cursor, or none if it was cancelled; a publisher is current unless it left
abbrev pub IsInBook : Book → Role → Type 0
IsInBook book (Ticket t) = IsGiven t.id book.ids × (cursor_of book.cursors t.id ≡ cursor_if t.gone t.next)
IsInBook book (Publisher p) = IsGiven p.number book.numbers × (is_current book.active p.number ≡ not p.gone)
IsInBook book _ = Unit {0}

abbrev pub Front : ℕ → Sight → Type 0
Front n s = n ≡ front_word s.seen s.closed

module _ {B : Type 0} (book_of : B → Book) (represents : Rules → List Event → ℕ → B → Type 0) (sound : Rules → List Event → Type 0) where
  -- the view v has become w: it has seen the whole record of that moment, and knows this state if it has the lock
  pub record Renews (v w : View) (held : Option Book) : Type 0 where
    pub is : w ≡ view v.rules w.sight v.role held None
    pub grows : Grows v.sight w.sight
    pub met : GrowsIfAny v.met w.sight
    pub own : KnowsOwnClose v.role v.sight w.sight
    pub sane : IsSane w.sight.seen w.role
    pub sound_is : sound w.rules w.sight.seen

  -- the view v has become w by taking the lock, with the value b behind it
  pub record Locks (v w : View) (b : B) : Type 0 where
    pub renews : Renews v w (Some (book_of b))
    pub behind : represents w.rules w.sight.seen w.sight.closed b
    pub fresh : IsFresh (book_of b) w.sight
    pub in_book : IsInBook (book_of b) w.role
    pub bounded : IsBounded (book_of b)

  abbrev pub entered_as : Step (Option B) → Me (Option B) View → ℕ → Me (Option B) View → Type 0
  entered_as st m n m' = (m'.0 ≡ visitor m.0.rules m'.0.sight.seen m'.0.sight.closed) × Front n m'.0.sight × sound m.0.rules m'.0.sight.seen

  abbrev pub looked_as : Step (Option B) → Me (Option B) View → ℕ → Me (Option B) View → Type 0
  looked_as st m n m' = Renews m.0 m'.0 None × (m'.1 ≡ m.1) × Front n m'.0.sight

  abbrev pub Takes : Me (Option B) View → Me (Option B) View → Type 0
  Takes m m' = (b : B) × (m'.1 ≡ (0, Some b) ∷ []) × Locks m.0 m'.0 b

  abbrev pub locked_as : Step (Option B) → Me (Option B) View → ℕ → Me (Option B) View → Type 0
  locked_as st m n m' = (n ≡ 0 → Takes m m') × (n ≢ 0 → m' ≡ m)

abbrev pub M : Type 0
M = Me (Option Locked) View

abbrev pub enter_step : Step (Option Locked) → M → ℕ → M → Type 0
enter_step = entered_as book_of IsBehind IsSound

abbrev pub look_step : Step (Option Locked) → M → ℕ → M → Type 0
look_step = looked_as book_of IsBehind IsSound

abbrev pub lock_step : Step (Option Locked) → M → ℕ → M → Type 0
lock_step = locked_as book_of IsBehind IsSound

-- the seat has taken the lock, and has moved the value b out of the slot
abbrev pub Holding : M → Locked → M → Type 0
Holding m b m' = (m'.1 ≡ (0, None) ∷ []) × Locks book_of IsBehind IsSound m.0 m'.0 b

-- the seat has taken a look
abbrev pub Looks : M → M → Type 0
Looks m m' = Renews book_of IsBehind IsSound m.0 m'.0 None × (m'.1 ≡ [])

-- ---- what a seat is before a step

-- the seat has neither the lock nor a note
pub record IsIdle (m : M) : Type 0 where
  pub live : IsLive m.0.role
  pub held : m.0.held ≡ None
  pub out : m.1 ≡ []
  pub met : m.0.met ≡ None

abbrev pub writing_of : Role → Writing
writing_of (Publisher p) = p
writing_of _ = record { number = 0; mine = []; gone = false }

abbrev pub mine_of : Role → List ℕ
mine_of r = (writing_of r).mine

abbrev pub writer : ℕ → List ℕ → Role
writer number mine = Publisher record { number = number; mine = mine; gone = false }

abbrev pub taking_of : Role → Taking
taking_of (Ticket t) = t
taking_of _ = record { id = 0; mark = 0; next = 0; got = []; gone = false }

abbrev pub got_of : Role → List Event
got_of r = (taking_of r).got

abbrev pub taker : ℕ → ℕ → ℕ → List Event → Role
taker id mark next got = Ticket record { id = id; mark = mark; next = next; got = got; gone = false }

-- the seat of the current publisher n, between two calls
pub record IsWriter (m : M) (n : ℕ) : Type 0 where
  pub role : m.0.role ≡ writer n (mine_of m.0.role)
  pub held : m.0.held ≡ None
  pub out : m.1 ≡ []
  pub met : m.0.met ≡ None
  pub own : by n m.0.sight.seen ≡ mine_of m.0.role
  pub within : length m.0.sight.seen ≤ m.0.rules.limits.total

-- the seat of the current publisher n has taken the lock, and the value b behind it
abbrev pub HoldsAsWriter : M → ℕ → Locked → Type 0
HoldsAsWriter m n b = (before : M) × IsWriter before n × Holding before b m

-- the seat of a current ticket, between two calls
pub record IsTaker (m : M) (id mark next : ℕ) : Type 0 where
  pub role : m.0.role ≡ taker id mark next (got_of m.0.role)
  pub held : m.0.held ≡ None
  pub out : m.1 ≡ []
  pub met : m.0.met ≡ None
  pub began : mark ≤ next
  pub ended : next ≤ length m.0.sight.seen
  pub got : got_of m.0.role ≡ slice mark next m.0.sight.seen
  pub within : length m.0.sight.seen ≤ m.0.rules.limits.total

-- ---- what a seat that has the lock may do

-- the view v of the publisher p after one more message
abbrev pub view_with_letters : View → Writing → List ℕ → View
view_with_letters v p message = view v.rules (sight (v.sight.seen ++ as_events p.number message) v.sight.closed) (Publisher record { number = p.number; mine = p.mine ++ message; gone = p.gone }) v.held v.met

-- the view v after the publisher p closed the record
abbrev pub closing : View → Writing → View
closing v p = view v.rules (sight v.sight.seen p.number) v.role v.held v.met

abbrev pub view_at_rest : View → Role → View
view_at_rest v r = resting v.rules v.sight r

abbrev pub WritesMessage : M → ℕ → List ℕ → View → Type 0
WritesMessage m new message w = (k : Book) × (m.0.held ≡ Some k) × (m.0.sight.closed ≡ 0) × (m.0.role ≡ Publisher (writing_of m.0.role))
    × (new ≡ front_word (m.0.sight.seen ++ as_events (writing_of m.0.role).number message) 0) × IsSound m.0.rules (m.0.sight.seen ++ as_events (writing_of m.0.role).number message)
    × (w ≡ view_with_letters m.0 (writing_of m.0.role) message)
    × HoldsPending m.0.rules (m.0.sight.seen ++ as_events (writing_of m.0.role).number message) k

abbrev pub WritesMark : M → ℕ → View → Type 0
WritesMark m new w = (k : Book) × (m.0.held ≡ Some k) × (m.0.sight.closed ≡ 0) × (m.0.role ≡ Publisher (writing_of m.0.role))
    × (new ≡ front_word m.0.sight.seen (writing_of m.0.role).number) × (w ≡ closing m.0 (writing_of m.0.role))

-- the number or id n0 is given to the seat j
abbrev pub with_value_at : (ℕ → ℕ) → ℕ → ℕ → ℕ → ℕ
with_value_at f n0 j n = cond (n == n0) j (f n)

-- How the state changes while a seat in the role r, which becomes r', has the lock: only at the id i0 and the number
-- n0, which are the seat's own or new.
pub record Changes (seen : List Event) (r r' : Role) (k k' : Book) (i0 n0 : ℕ) : Type 0 where
  pub ids_up : k.ids ≤ k'.ids
  pub numbers_up : k.numbers ≤ k'.numbers
  pub cursors : (i : ℕ) → i ≢ i0 → cursor_of k'.cursors i ≡ cursor_of k.cursors i
  pub active : (n : ℕ) → n ≢ n0 → is_current k'.active n ≡ is_current k.active n
  pub live : IsLive r
  pub live' : IsLive r'
  pub own_id : (f g : ℕ → ℕ) (j : ℕ) → InRole k seen f g j seen r → (k.ids < i0) ⊎ (f i0 ≡ j)
  pub own_number : (f g : ℕ → ℕ) (j : ℕ) → InRole k seen f g j seen r → (k.numbers < n0) ⊎ (g n0 ≡ j)
  pub id_kept : (i : ℕ) → HasId i r → HasId i r'
  pub number_kept : (n : ℕ) → IsNumbered n r → IsNumbered n r'
  -- what is given is given to this seat
  pub id_given : (i : ℕ) → k.ids < i → i ≤ k'.ids → (i ≡ i0) × HasId i r'
  pub number_given : (n : ℕ) → k.numbers < n → n ≤ k'.numbers → (n ≡ n0) × IsNumbered n r'
  pub bounded : IsBounded k'
  pub fits : (f g : ℕ → ℕ) (j : ℕ) → InRole k seen f g j seen r → f i0 ≡ j → g n0 ≡ j → InRole k' seen f g j seen r'

-- A seat that has the lock may put b into the slot, release the lock, and then have the view w.
abbrev pub Gives : M → Locked → View → Type 0
Gives m b w = (k : Book) × (r : Role) × (i0 : ℕ) × (n0 : ℕ) × (m.0.held ≡ Some k) × (w ≡ view_at_rest m.0 r)
    × IsBehind m.0.rules m.0.sight.seen m.0.sight.closed b × Changes m.0.sight.seen m.0.role r k (book_of b) i0 n0

-- ---- the roles of a seat that releases the lock

-- the ticket with the last id given, whose mark is the end of what is seen
abbrev pub new_taker : Locked → List Event → Role
new_taker b seen = taker b.kept.value.given (length seen) (length seen) []

-- the ticket t after it took n more events of what was seen
abbrev pub taker_after : List Event → Taking → ℕ → Role
taker_after seen t n = taker t.id t.mark (t.next + n) (t.got ++ slice t.next (t.next + n) seen)

-- a ticket that was cancelled, or a publisher that left
abbrev pub as_gone : Role → Role
as_gone (Ticket t) = Ticket (record t { gone = true })
as_gone (Publisher p) = Publisher (record p { gone = true })
as_gone r = r

-- ---- notes

-- a note of what a view has seen
abbrev pub note_of : View → View
note_of v = resting v.rules v.sight Note

-- a view that has joined a note
abbrev pub with_note : View → View → View
with_note v u = view v.rules v.sight v.role v.held (Some u.sight)

-- What the rule says about any table under it.
use Rattle.std.specs.Prelude.{◌≢◌, slice_index, length, ◌≡◌, ◌⊎◌, ◌≤◌, ◌+◌, ◌∷◌, [], ℕ, Bool, Option, Some, true, false}
use mathlib.Core.Option.{some}
use lib.ListN.{get_elem?}
use Rattle.atomic_table.specs.Table.{State}
use Rattle.hub_letters.specs.declared.flags.Flags.{Flags}
use Rattle.hub_letters.specs.Flags.{flags_of}
use Rattle.hub_record.specs.declared.limits.Policy.TheVariants.{Hold}
use Rattle.hub_record.specs.World.{World, base, letters, is_evicted}
use Rattle.hub_fifodir.specs.declared.views.Rules.{Rules}
use Rattle.hub_fifodir.specs.declared.views.View.{View}
use Rattle.hub_fifodir.specs.declared.views.Taking.{Taking}
use Rattle.hub_fifodir.specs.declared.views.Writing.{Writing}
use Rattle.hub_fifodir.specs.declared.views.Role.TheVariants.{Ticket, Publisher}
use Rattle.hub_fifodir.specs.declared.locked.Locked.{Locked}
use Rattle.hub_fifodir.specs.Events.{StartsWith}
use Rattle.hub_fifodir.specs.Events.{packed_word}
use Rattle.hub_fifodir.specs.Locks.{RepresentsWorld, is_current}
use Rattle.hub_fifodir.specs.Rule.{RuleHolds, IsLive, cursor_of}

abbrev Board : Type 0
Board = State (Option Locked) View

-- the seat j is this ticket's
abbrev pub HasTicket : State (Option Locked) View → ℕ → Taking → Type 0
HasTicket s j t = (v : View) × (get_elem? s.views j ≡ some v) × (v.role ≡ Ticket t)

abbrev pub HasPublisher : State (Option Locked) View → ℕ → Writing → Type 0
HasPublisher s j p = (v : View) × (get_elem? s.views j ≡ some v) × (v.role ≡ Publisher p)

-- the lock is free, and b is behind it
abbrev pub IsFree : State (Option Locked) View → Locked → Type 0
IsFree s b = s.homes ≡ some (Some b) ∷ []

-- two tickets have different ids, and two publishers different numbers
abbrev pub TicketsDiffer : Type 0
TicketsDiffer = (rules : Rules) (s : Board) (j k : ℕ) (t u : Taking) → RuleHolds rules s → HasTicket s j t → HasTicket s k u → t.id ≡ u.id → j ≡ k

abbrev pub PublishersDiffer : Type 0
PublishersDiffer = (rules : Rules) (s : Board) (j k : ℕ) (p q : Writing) → RuleHolds rules s → HasPublisher s j p → HasPublisher s k q → p.number ≡ q.number → j ≡ k

-- of what two seats have seen, one is a prefix of the other
abbrev pub SeatsAgree : Type 0
SeatsAgree = (rules : Rules) (s : Board) (j k : ℕ) (v w : View) → RuleHolds rules s → get_elem? s.views j ≡ some v → get_elem? s.views k ≡ some w → IsLive v.role → IsLive w.role
    → StartsWith v.sight.seen w.sight.seen ⊎ StartsWith w.sight.seen v.sight.seen

-- a current ticket has its cursor, and a cursor has its ticket
abbrev pub TicketsHaveCursors : Type 0
TicketsHaveCursors = (rules : Rules) (s : Board) (b : Locked) (j : ℕ) (t : Taking) → RuleHolds rules s → IsFree s b → HasTicket s j t → t.gone ≡ false → cursor_of b.kept.value.cursors t.id ≡ Some t.next

abbrev pub CursorsHaveTickets : Type 0
CursorsHaveTickets = (rules : Rules) (s : Board) (b : Locked) (id next : ℕ) → RuleHolds rules s → IsFree s b → cursor_of b.kept.value.cursors id ≡ Some next
    → (j : ℕ) × (t : Taking) × HasTicket s j t × (t.id ≡ id) × (t.next ≡ next) × (t.gone ≡ false)

-- a current number has its publisher
abbrev pub ActiveHavePublishers : Type 0
ActiveHavePublishers = (rules : Rules) (s : Board) (b : Locked) (n : ℕ) → RuleHolds rules s → IsFree s b → is_current b.active.keys n ≡ true
    → (j : ℕ) × (p : Writing) × HasPublisher s j p × (p.number ≡ n) × (p.gone ≡ false)

-- the base hasn't passed what a current ticket takes next, unless the ticket is evicted
abbrev pub BaseIsBehind : Type 0
BaseIsBehind = (rules : Rules) (s : Board) (b : Locked) (w : World) (j : ℕ) (t : Taking) → RuleHolds rules s → IsFree s b → RepresentsWorld b w → HasTicket s j t → t.gone ≡ false → is_evicted w t.next ≡ false → base w ≤ t.next

-- with the policy Hold, no more is pending for a current ticket than may be
abbrev pub HoldKeepsAll : Type 0
HoldKeepsAll = (rules : Rules) (s : Board) (b : Locked) (w : World) (j : ℕ) (t : Taking) → RuleHolds rules s → IsFree s b → RepresentsWorld b w → rules.limits.policy ≡ Hold → HasTicket s j t → t.gone ≡ false
    → length w.events ≤ t.next + w.limits.waiting

-- the record behind the lock represents for one history; each seat has seen a prefix of it, and all of it if it has seen
-- the close; the front word shows its status
pub record IsHistory (rules : Rules) (s : State (Option Locked) View) (b : Locked) (w : World) : Type 0 where
  pub represents : RepresentsWorld b w
  pub kind : w.kind ≡ rules.kind
  pub limits : w.limits ≡ rules.limits
  pub front : slice_index s.words 0 ≡ packed_word (length w.events) w.closed (flags_of (letters w.events))
  pub seen : (j : ℕ) (v : View) → get_elem? s.views j ≡ some v → IsLive v.role → StartsWith w.events v.sight.seen
  pub shut : (j : ℕ) (v : View) → get_elem? s.views j ≡ some v → IsLive v.role → v.sight.closed ≢ 0 → (v.sight.seen ≡ w.events) × (w.closed ≡ true)

abbrev pub RecordIsHistory : Type 0
RecordIsHistory = (rules : Rules) (s : Board) (b : Locked) → RuleHolds rules s → IsFree s b → (w : World) × IsHistory rules s b w

-- With the policy Hold, no more is pending for a current ticket than may be, whoever has the lock: the front word shows how many
-- events there are.
abbrev pub HoldKeepsAllAlways : Type 0
HoldKeepsAllAlways = (rules : Rules) (s : Board) (j : ℕ) (t : Taking) (number : ℕ) (closed : Bool) (flags : Flags) → RuleHolds rules s → rules.limits.policy ≡ Hold
    → HasTicket s j t → t.gone ≡ false → slice_index s.words 0 ≡ packed_word number closed flags → number ≤ t.next + rules.limits.waiting

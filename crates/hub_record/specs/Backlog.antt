-- What a contract sees of the events that are kept, and of the cursors into them.
use Rattle.std.specs.Prelude.{ℕ, ◌≡◌, ◌⊎◌, ◌==◌, if◌then◌else◌, ◌+◌, ◌-◌, ◌<◌, ◌≤◌, not, List, [], ◌∷◌, ◌++◌, Option, Some, None, Result, Ok, Err, filter, take, drop, set, get_or, length, min, nat_eq, nat_lt, count_by, All, IsSome}
use Rattle.std.specs.List.{position_or_len}
use Rattle.std.specs.Map.{lookup, remove_entry, keys_of, values_of}
use Rattle.hub_record.specs.declared.Event.{Event}
use Rattle.hub_record.specs.declared.NoId.{NoId}
use Rattle.hub_record.specs.declared.limits.Policy.{Policy}
use Rattle.hub_record.specs.declared.limits.Policy.TheVariants.{Hold, Evict}
use Rattle.hub_record.specs.declared.backlog.Found.{Found}
use Rattle.hub_record.specs.declared.backlog.Found.TheVariants.{Copied, Nothing, Lost}
use Rattle.circular_buffer.specs.Buffer.{Buffer}
use Rattle.hub_record.specs.declared.limits.TheConstants.{MOST_EVENTS, MOST_PASSES}
use Rattle.hub_record.specs.World.{least, is_slow}

-- the events from the least cursor on that isn't slow, and the cursors of the current ids in the order of the ids
pub record Held : Type 0 where
  pub room : ℕ
  pub end : ℕ
  pub events : List Event
  pub given : ℕ
  pub cursors : List (ℕ × ℕ)

abbrev pub nothing_held : ℕ → Held
nothing_held room = record { room = room; end = 0; events = []; given = 0; cursors = [] }

-- the cursors behind which no more events are pending than there is room for
abbrev pub active_in : (room end : ℕ) → List (ℕ × ℕ) → List (ℕ × ℕ)
active_in room end cursors = filter (λ c. not (is_slow room end c.1)) cursors

-- the cursors behind which more are pending
abbrev pub slow_in : (room end : ℕ) → List (ℕ × ℕ) → List (ℕ × ℕ)
slow_in room end cursors = filter (λ c. is_slow room end c.1) cursors

-- the least of these, or the end
abbrev pub lowest_in : (room end : ℕ) → List (ℕ × ℕ) → ℕ
lowest_in room end cursors = least end (active_in room end cursors)

-- the number of the first event that is kept
abbrev pub lowest : Held → ℕ
lowest h = lowest_in h.room h.end h.cursors

-- the number of the event that an id takes next
abbrev pub next_of : Held → ℕ → Option ℕ
next_of h id = lookup (nat_eq id) h.cursors

-- with a cursor at the end for a new id
abbrev pub with_new_id : Held → Held
with_new_id h = record h { given = h.given + 1; cursors = h.cursors ++ (h.given + 1, h.end) ∷ [] }

-- with more events, cut at the least of the cursors that aren't slow then
abbrev pub with_events : Held → List Event → Held
with_events h more = record h { end = h.end + length more; events = drop (lowest_in h.room (h.end + length more) h.cursors - lowest h) (h.events ++ more) }

-- with these cursors, cut at the least of them that isn't slow
abbrev pub with_cursors : Held → List (ℕ × ℕ) → Held
with_cursors h cursors = record h { cursors = cursors; events = drop (lowest_in h.room h.end cursors - lowest h) h.events }

abbrev pub IsStill : Held → Type 0
IsStill h = active_in h.room h.end h.cursors ≡ []

-- how many events have to be kept at once after n more: all that are kept and these, or these alone
abbrev pub room_for : Policy → Held → ℕ → ℕ
room_for Hold h n = length h.events + n
room_for Evict h n = n

abbrev pub HasRoomFor : Policy → Held → ℕ → Type 0
HasRoomFor policy h n = IsStill h ⊎ (room_for policy h n ≤ h.room)

-- ---- what is pending

-- the cursor of an id isn't slow, events are pending behind it, and these are at least n
pub record ArePending (room end : ℕ) (cursors : List (ℕ × ℕ)) (id n : ℕ) : Type 0 where
  pub next : ℕ
  pub was_at : lookup (nat_eq id) cursors ≡ Some next
  pub waited : next < end
  pub fits : end - next ≤ room
  pub within : next + n ≤ end

-- n events, which are those that fit, are copied to the beginning of a slice
pub record Copies (h : Held) (id n : ℕ) (slice filled : List Event) : Type 0 where
  pub pending : ArePending h.room h.end h.cursors id n
  pub count : n ≡ min (length slice) (h.end - pending.next)
  pub copied : filled ≡ take n (drop (pending.next - lowest h) h.events) ++ drop n slice

-- the cursor of the id is slow
abbrev pub IsSlow : Held → ℕ → Type 0
IsSlow h id = (next : ℕ) × (next_of h id ≡ Some next) × (h.room < h.end - next)

-- for each answer: no such cursor, nothing behind it, too much behind it, or how many were copied
abbrev pub ShowsBy : Held → ℕ → List Event → List Event → Result Found NoId → Type 0
ShowsBy h id slice filled (Err no_id) = (next_of h id ≡ None) × (filled ≡ slice)
ShowsBy h id slice filled (Ok Nothing) = (next_of h id ≡ Some h.end) × (filled ≡ slice)
ShowsBy h id slice filled (Ok Lost) = IsSlow h id × (filled ≡ slice)
ShowsBy h id slice filled (Ok (Copied n)) = Copies h id n slice filled

-- how many events are pending behind the cursor of an id
abbrev pub pending_if : Held → Option ℕ → Option ℕ
pending_if h None = None
pending_if h (Some next) = if is_slow h.room h.end next then None else Some (h.end - next)

abbrev pub pending : Held → ℕ → Option ℕ
pending h id = pending_if h (next_of h id)

-- ---- remove

-- for each answer: the cursor is removed, or there was none
abbrev pub RemovesBy : Held → Held → ℕ → Result (Unit {0}) NoId → Type 0
RemovesBy before after id (Ok done) = IsSome (next_of before id) × (after ≡ with_cursors before (remove_entry (nat_eq id) before.cursors))
RemovesBy before after id (Err no_id) = (next_of before id ≡ None) × (after ≡ before)

-- ---- what is also kept, so that the least cursor is found without a look at all of them

-- how many cursors are at a number
abbrev pub active_at : ℕ → List (ℕ × ℕ) → ℕ
active_at number cursors = count_by (λ n. n == number) (values_of cursors)

-- the counts are, event by event from the base on, how many cursors are at it; the last is for the end
pub record IsKept (room base : ℕ) (counts : Buffer ℕ) (end given : ℕ) (cursors : List (ℕ × ℕ)) : Type 0 where
  pub lowest : base ≡ lowest_in room end cursors
  pub counted : (k : ℕ) → get_or counts.items k 0 ≡ active_at (base + k) cursors
  pub to_end : base + length counts.items ≡ end + 1
  pub fits : counts.capacity ≡ room + 1
  pub behind : All (λ n. n ≤ end) (values_of cursors)
  pub known : All (λ id. id ≤ given) (keys_of cursors)
  pub few : length cursors ≤ MOST_PASSES
  pub small : end ≤ MOST_EVENTS

-- the counts of the later places, the last of which may be apart
abbrev pub with_last : List ℕ → Option ℕ → List ℕ
with_last later None = later
with_last later (Some last) = later ++ last ∷ []

abbrev pub with_one_more : List ℕ → ℕ → List ℕ
with_one_more counts place = set counts place (get_or counts place 0 + 1)

abbrev pub with_one_less : List ℕ → ℕ → List ℕ
with_one_less counts place = set counts place (get_or counts place 0 - 1)

-- the first place at which there is a cursor, or the number of places
abbrev pub first_place : List ℕ → ℕ
first_place counts = position_or_len (λ n. nat_lt 0 n) counts

-- ---- the order of the cursors

-- each id is above those before it
abbrev pub IsRising : List (ℕ × ℕ) → Type 0
IsRising [] = Unit {0}
IsRising (c ∷ cs) = All (λ id. c.0 < id) (keys_of cs) × IsRising cs

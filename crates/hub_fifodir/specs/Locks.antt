-- The value behind the lock, and what its calls do beside the calls of its record.
use Rattle.std.specs.Prelude.{◌≡◌, ℕ, ◌+◌, ◌<◌, ◌≤◌, Bool, true, false, cond, if◌then◌else◌, List, length, ◌-◌, Result, Ok, Err, nat_eq, nat_lt}
use Rattle.std.specs.List.{list_any}
use Rattle.hub_letters.specs.Flags.{flags_of}
use Rattle.hub_record.specs.declared.limits.TheConstants.{MOST_PASSES}
use Rattle.hub_record.specs.declared.Status.{Status}
use Rattle.hub_record.specs.World.{World, active, evicted, letters, load}
use Rattle.hub_record.specs.Kept.{Represents}
use Rattle.hub_fifodir.specs.declared.PassError.{PassError}
use Rattle.hub_fifodir.specs.declared.PassError.TheVariants as pass
use Rattle.hub_fifodir.specs.declared.locked.Locked.{Locked}
use Rattle.hub_fifodir.specs.declared.usage.Usage.{Usage}

-- the numbers of the current publishers, and how many numbers were given
abbrev pub numbers_of : Locked → List ℕ
numbers_of b = b.active.keys

abbrev pub given_by : Locked → ℕ
given_by b = b.given

-- no more numbers are current than were given, and no more were given than may be
abbrev pub IsCounted : Locked → Type 0
IsCounted b = (length b.active.keys ≤ b.given) × (b.given ≤ b.ids)

-- its record represents for the world, and its numbers are counted
pub record RepresentsWorld (b : Locked) (w : World) : Type 0 where
  pub for : Represents b.kept.value w
  pub ids : b.ids ≡ w.limits.ids
  pub counted : IsCounted b

-- the status of a world's record
abbrev pub status_of : World → Status
status_of w = record { number = length w.events; flags = flags_of (letters w.events); closed = w.closed }

-- how much there is: active subscriptions, current publishers, events that are pending for the slowest subscription, and evicted
-- subscriptions
abbrev pub usage_of : Locked → World → Usage
usage_of b w = record { subscriptions = length (active w); publishers = length (numbers_of b); pending = load w; evicted = length (evicted w) }

-- whether more events are pending for the slowest subscription than there is room for besides
abbrev pub is_half_full : World → Bool
is_half_full w = nat_lt (w.limits.waiting - load w) (load w)

-- the record is the same
abbrev pub KeepsRecord : Locked → Locked → Type 0
KeepsRecord old new = (new.kept.value ≡ old.kept.value) × (new.ids ≡ old.ids)

-- whether a number is that of a current publisher
abbrev pub is_current : List ℕ → ℕ → Bool
is_current numbers n = list_any (nat_eq n) numbers

abbrev pub PublisherReply : Locked → Result ℕ PassError → Type 0
PublisherReply b (Ok n) = (length b.active.keys < MOST_PASSES) × (b.given < b.ids) × (n ≡ b.given + 1)
PublisherReply b (Err pass.Many) = MOST_PASSES ≤ length b.active.keys
PublisherReply b (Err pass.Spent) = (length b.active.keys < MOST_PASSES) × (b.ids ≤ b.given)
PublisherReply b (Err pass.Memory) = (length b.active.keys < MOST_PASSES) × (b.given < b.ids)

-- the same publishers are current, and no number was given
abbrev pub KeepsPublishers : Locked → Locked → Type 0
KeepsPublishers old new = (new.active.keys ≡ old.active.keys) × (new.given ≡ old.given) × (new.ids ≡ old.ids)

-- the number that was given is current too; if it wasn't current before, there is one more
abbrev pub IsAfterPublisher : Locked → Result ℕ PassError → Locked → Type 0
IsAfterPublisher old (Ok n) new = ((m : ℕ) → is_current new.active.keys m ≡ cond (nat_eq n m) true (is_current old.active.keys m)) × (new.given ≡ n)
    × (length new.active.keys ≡ length old.active.keys + (if is_current old.active.keys n then 0 else 1))
IsAfterPublisher old (Err e) new = KeepsPublishers old new

-- the number n isn't current any more, and the others are as before; if it was current, there is one less
abbrev pub HasLeft : Locked → ℕ → Locked → Type 0
HasLeft old n new = ((m : ℕ) → is_current new.active.keys m ≡ cond (nat_eq n m) false (is_current old.active.keys m)) × (new.given ≡ old.given)
    × (length new.active.keys + (if is_current old.active.keys n then 1 else 0) ≡ length old.active.keys)

-- Notes, and the table of a fifodir.
use Rattle.std.specs.Prelude.{◌≡◌, [], Option}
use Rattle.atomic_table.specs.Seated.{TableId}
use Rattle.atomic_table.specs.declared.shared.Seat.{Seat}
use Rattle.hub_fifodir.specs.declared.locked.Locked.{Locked}
use Rattle.hub_fifodir.specs.declared.views.Sight.{Sight}
use Rattle.hub_fifodir.specs.declared.views.View.{View}
use Rattle.hub_fifodir.specs.declared.views.Role.TheVariants.{Note}
use Rattle.hub_fifodir.specs.Rule.{resting}

-- the two words are the front word and the lock, and the one slot has the locked value
abbrev pub IsSized : TableId → Type 0
IsSized z = (z.words ≡ 2) × (z.slots ≡ 1)

-- the same seat of the same table
abbrev pub KeepsPlace : Seat (Option Locked) View → Seat (Option Locked) View → Type 0
KeepsPlace old new = (new.table_id ≡ old.table_id) × (new.id ≡ old.id)

abbrev pub note_sight : Seat (Option Locked) View → Sight
note_sight n = n.me.0.sight

-- a note of this sight
abbrev pub IsNote : TableId → Sight → Seat (Option Locked) View → Type 0
IsNote z s n = (n.table_id ≡ z) × (n.me.0 ≡ resting n.me.0.rules s Note) × (n.me.1 ≡ [])

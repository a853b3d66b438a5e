-- A call that leaves the record in its box as it was leaves the whole value behind the lock.
use Rattle.std.proofs.Common.{◌≡◌, Result, Ok, Err, OnErr, ap, ◌∙◌}
use Rattle.std.specs.Box.{with_value}
use Rattle.hub_record.specs.declared.record.Record.{Record}
use Rattle.hub_fifodir.specs.declared.locked.Locked.{Locked}

-- the value with another record in its box
abbrev pub with_record : Locked → Record → Locked
with_record b r = record { kept = with_value b.kept r; ids = b.ids; active = b.active; given = b.given }

pub same_if_refused : {T E : Type 0} (b : Locked) (before after : Record) (r : Result T E) → before ≡ b.kept.value → OnErr r (after ≡ before) → OnErr r (with_record b after ≡ b)
same_if_refused b before after (Ok x) at same = tt
same_if_refused b before after (Err e) at same = ap (with_record b) (same ∙ at)

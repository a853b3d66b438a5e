-- What a watch knows of a service, and what letters add to it. A word is a list of letters, each seen as its byte.
use Rattle.std.specs.Prelude.{ℕ, ◌+◌, ◌-◌, max, Bool, false, ◌||◌, List, length, drop, map, Option, Some, None}
use Rattle.hub_letters.specs.declared.flags.Flags.{Flags}
use Rattle.hub_letters.specs.declared.want.Want.{Want}
use Rattle.hub_letters.specs.Marks.{Mark, mark, last_among, is_life, is_supervision, is_hope, is_began, is_gave_up}
use Rattle.hub_letters.specs.Flags.{up_by, settled_by}
use Rattle.hub_letters.specs.Wants.{is_met, is_hopeless}
use Rattle.hub_letters.specs.Marks.{has_fall}
use Rattle.hub_record.specs.declared.Status.{Status}

-- what is wanted of a service, how many events it had when the watch began, how many are known, their flags, whether one of
-- those between fell, and whether no more will come
pub record Watching : Type 0 where
  pub want : Want
  pub notifies : Bool
  pub since : ℕ
  pub at : ℕ
  pub flags : Flags
  pub fell : Bool
  pub ended : Bool

abbrev pub new_watching : Want → Bool → Status → Watching
new_watching want notifies status = record {
  want = want;
  notifies = notifies;
  since = status.number;
  at = status.number;
  flags = status.flags;
  fell = false;
  ended = status.closed;
}

-- a flag by the last letter that bears on it, or unchanged if none does
abbrev pub flag_after : Bool → (Option Mark → Bool) → Option Mark → Bool
flag_after before by None = before
flag_after before by (Some m) = by (Some m)

abbrev pub flags_after_marks : Flags → List Mark → Flags
flags_after_marks f ms = record {
  up = flag_after f.up up_by (last_among is_life ms);
  settled = flag_after f.settled settled_by (last_among is_life ms);
  supervised = flag_after f.supervised is_began (last_among is_supervision ms);
  failed = flag_after f.failed is_gave_up (last_among is_hope ms);
}

-- the flags after more letters: each by the last of these that bears on it, or unchanged if none does
abbrev pub flags_after : Flags → List ℕ → Flags
flags_after f letters = flags_after_marks f (map mark letters)

-- after letters that are numbered from `first`; those below `at` are skipped
abbrev pub watching_after_step : Watching → ℕ → List ℕ → Watching
watching_after_step w first letters = let new = drop (w.at - first) letters in record w {
  at = max w.at (first + length letters);
  flags = flags_after w.flags new;
  fell = w.fell || has_fall new;
}

-- after a status of the service; a closed one ends the watch
abbrev pub renewed_by : Watching → Status → Watching
renewed_by w status = record w { at = status.number; flags = status.flags; ended = w.ended || status.closed }

abbrev pub is_met_at : Watching → Bool
is_met_at w = is_met w.want w.flags w.notifies w.fell

-- no further event can bring what is wanted
abbrev pub is_lost_at : Watching → Bool
is_lost_at w = is_hopeless w.want w.flags || w.ended

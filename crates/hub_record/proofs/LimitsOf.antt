-- Limits whose numbers are in their ranges.
use Rattle.std.proofs.Common.{◌≡◌, ◌≤◌, Some}
use Rattle.std.proofs.Math.Bridge.{le_prop}
use Rattle.std.proofs.Math.Decide.{dec_le}
use Rattle.hub_record.specs.declared.limits.Limits.{Limits}
use Rattle.hub_record.specs.declared.limits.TheConstants.{MOST_WAITING, MOST_EVENTS, MOST_IDS}
use Rattle.hub_record.specs.LimitsOf.{limits_by, limits_of}

by_tests : (l : Limits) (a : Dec (1 ≤ l.waiting)) (b : Dec (l.waiting ≤ MOST_WAITING)) (c : Dec (1 ≤ l.total)) (d : Dec (l.total ≤ MOST_EVENTS)) (e : Dec (1 ≤ l.ids)) (f : Dec (l.ids ≤ MOST_IDS))
    → limits_by l.waiting l.total l.ids l.policy a b c d e f ≡ Some l
by_tests l (yes a) (yes b) (yes c) (yes d) (yes e) (yes f) = λ i. Some (record {
  waiting = l.waiting;
  total = l.total;
  ids = l.ids;
  policy = l.policy;
  waiting_in_range = (le_prop a l.waiting_in_range.0 i, le_prop b l.waiting_in_range.1 i);
  total_in_range = (le_prop c l.total_in_range.0 i, le_prop d l.total_in_range.1 i);
  ids_in_range = (le_prop e l.ids_in_range.0 i, le_prop f l.ids_in_range.1 i);
})
by_tests l (no a) b c d e f = absurd (a l.waiting_in_range.0)
by_tests l (yes a) (no b) c d e f = absurd (b l.waiting_in_range.1)
by_tests l (yes a) (yes b) (no c) d e f = absurd (c l.total_in_range.0)
by_tests l (yes a) (yes b) (yes c) (no d) e f = absurd (d l.total_in_range.1)
by_tests l (yes a) (yes b) (yes c) (yes d) (no e) f = absurd (e l.ids_in_range.0)
by_tests l (yes a) (yes b) (yes c) (yes d) (yes e) (no f) = absurd (f l.ids_in_range.1)

-- any limits are those with their numbers and their policy
pub limits_of-numbers : (l : Limits) → limits_of l.waiting l.total l.ids l.policy ≡ Some l
limits_of-numbers l = by_tests l (dec_le 1 l.waiting) (dec_le l.waiting MOST_WAITING) (dec_le 1 l.total) (dec_le l.total MOST_EVENTS) (dec_le 1 l.ids) (dec_le l.ids MOST_IDS)

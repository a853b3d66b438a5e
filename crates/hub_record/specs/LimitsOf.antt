-- The limits with given numbers and a policy.
use Rattle.std.specs.Prelude.{ℕ, ◌≤◌, Option, Some, None}
use Rattle.std.proofs.Math.Decide.{dec_le}
use Rattle.hub_record.specs.declared.limits.Limits.{Limits}
use Rattle.hub_record.specs.declared.limits.Policy.{Policy}
use Rattle.hub_record.specs.declared.limits.TheConstants.{MOST_WAITING, MOST_EVENTS, MOST_IDS}

abbrev pub limits_by : (waiting total ids : ℕ) → Policy → Dec (1 ≤ waiting) → Dec (waiting ≤ MOST_WAITING) → Dec (1 ≤ total) → Dec (total ≤ MOST_EVENTS) → Dec (1 ≤ ids) → Dec (ids ≤ MOST_IDS) → Option Limits
limits_by waiting total ids policy (yes some_wait) (yes few_wait) (yes some) (yes within) (yes an_id) (yes few_ids) =
    Some (record { waiting = waiting; total = total; ids = ids; policy = policy; waiting_in_range = (some_wait, few_wait); total_in_range = (some, within); ids_in_range = (an_id, few_ids) })
limits_by waiting total ids policy a b c d e f = None

-- none if a number is out of its range
abbrev pub limits_of : (waiting total ids : ℕ) → Policy → Option Limits
limits_of waiting total ids policy = limits_by waiting total ids policy (dec_le 1 waiting) (dec_le waiting MOST_WAITING) (dec_le 1 total) (dec_le total MOST_EVENTS) (dec_le 1 ids) (dec_le ids MOST_IDS)

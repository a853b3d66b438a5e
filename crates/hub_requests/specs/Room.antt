-- What every desk allows.
use Rattle.std.specs.Prelude.{ℕ, if◌then◌else◌, nat_le, Bool, true, false, Option, Some, None}
use Rattle.hub_record.specs.declared.limits.Policy.{Policy}
use Rattle.hub_record.specs.declared.limits.Policy.TheVariants.{Hold, Evict}
use Rattle.hub_requests.specs.declared.bounds.TheConstants.{MOST_HANDLES, MOST_NUMBERS}
use Rattle.hub_requests.specs.declared.reply.Refusal.{Refusal}
use Rattle.hub_requests.specs.declared.reply.Refusal.TheVariants as no

-- the policy of a fifodir that evicts or doesn't
abbrev pub policy_of : Bool → Policy
policy_of false = Hold
policy_of true = Evict

-- the refusal of one more handle, if so many are current and so many were given
abbrev pub refusal_of_handle : (current given : ℕ) → Option Refusal
refusal_of_handle current given =
    if nat_le MOST_HANDLES current then Some no.Many else
    if nat_le MOST_NUMBERS given then Some no.Spent else
    None

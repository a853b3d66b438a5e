-- What is pending behind the cursors, with the policy Hold.
use Rattle.std.proofs.Common.{◌≡◌, ℕ, ◌+◌, ◌≤◌, List, length, Some, sym, ap, ◌∙◌, subst}
use Rattle.hub_record.specs.declared.Event.{Event}
use Rattle.hub_record.specs.declared.limits.Limits.{Limits}
use Rattle.hub_record.specs.declared.limits.Policy.TheVariants.{Hold}
use Rattle.hub_record.specs.World.{World}
use Rattle.hub_record.proofs.Policies.{hold_bound}
use Rattle.hub_fifodir.specs.declared.locked.Locked.{Locked}
use Rattle.hub_fifodir.specs.declared.views.Rules.{Rules}
use Rattle.hub_fifodir.specs.Locks.{RepresentsWorld}
use Rattle.hub_fifodir.specs.Rule.{IsBehind, HoldsPending, book_of, cursor_of}

-- behind a cursor of the locked value
pub pending_in : (b : Locked) (w : World) → RepresentsWorld b w → w.limits.policy ≡ Hold → (i next : ℕ) → cursor_of b.kept.value.cursors i ≡ Some next
    → length w.events ≤ next + w.limits.waiting
pending_in b w h hold i next at = hold_bound w i next h.for.world (ap (λ (c : List (ℕ × ℕ)). cursor_of c i) (sym h.for.cursors) ∙ at) hold

pub pending_behind : (rules : Rules) (log : List Event) (mark : ℕ) (b : Locked) → IsBehind rules log mark b → HoldsPending rules log (book_of b)
pending_behind rules log mark b h hold i next at =
    let most = pending_in b h.world h.for (ap (λ (l : Limits). l.policy) h.limits ∙ hold) i next at in
    subst (λ (l : Limits). length log ≤ next + l.waiting) h.limits (subst (λ (e : List Event). length e ≤ next + h.world.limits.waiting) h.events most)

-- two values with the cursors of one world
pub pending_same : (rules : Rules) (log : List Event) (mark : ℕ) (b b' : Locked) → IsBehind rules log mark b' → b'.kept.value.cursors ≡ b.kept.value.cursors
    → HoldsPending rules log (book_of b)
pending_same rules log mark b b' h same hold i next at = pending_behind rules log mark b' h hold i next (ap (λ (c : List (ℕ × ℕ)). cursor_of c i) same ∙ at)

-- A table at the start, with an empty record behind the lock.
use Rattle.std.proofs.Common.{◌≡◌, ℕ, true, List, [], ◌∷◌, Some, refl, subst, arith}
use Rattle.atomic_table.specs.Table.{opening}
use Rattle.hub_record.specs.declared.Kind.{Kind}
use Rattle.hub_record.specs.declared.limits.Limits.{Limits}
use Rattle.hub_record.specs.World.{World, empty_world}
use Rattle.hub_fifodir.specs.declared.locked.Locked.{Locked}
use Rattle.hub_fifodir.specs.declared.views.Rules.{Rules}
use Rattle.hub_fifodir.specs.Locks.{RepresentsWorld, is_current}
use Rattle.hub_fifodir.specs.Rule.{RuleHolds, visitor, book_of, IsBehind, IsSound, IsGiven}
use Rattle.hub_fifodir.proofs.Locking.{begins}
use Rattle.hub_fifodir.proofs.Rests.{bounded_after}

none_active : (b : Locked) → b.active.keys ≡ [] → (n : ℕ) → is_current b.active.keys n ≡ true → IsGiven n b.given
none_active b none n at = let k : is_current [] n ≡ true = subst (λ (l : List ℕ). is_current l n ≡ true) none at in cc

pub opens : (kind : Kind) (limits : Limits) (b : Locked) → RepresentsWorld b (empty_world kind limits) → b.active.keys ≡ [] → b.given ≡ 0
    → RuleHolds (record { kind = kind; limits = limits }) (opening (0 ∷ 0 ∷ []) (Some b ∷ []) (visitor (record { kind = kind; limits = limits }) [] 0))
opens kind limits b h none zero = let rules : Rules = record { kind = kind; limits = limits } in let w : World = empty_world kind limits in
    begins book_of IsBehind IsSound rules b
    record { world = w; for = h; events = refl; closed = refl; kind = refl; limits = refl }
    (omega arith, h.for.world.lawful)
    (bounded_after b w h (none_active b none))
    h.for.given
    zero

use Rattle.std.proofs.Common.{refl, inl, subst, arith}
use Rattle.std.proofs.lemmas.Bool.{leb-true, le-leb}
use Rattle.hub_record.specs.declared.limits.Policy.TheVariants.{Hold, Evict}
use Rattle.hub_record.specs.Backlog.{IsStill}
use Rattle.hub_record.proofs.Moves.{is_still, not_still, fits_behind, room_told}
use Rattle.hub_record.proofs.backlog.Backlog.has_room.Goals as goal

pub returns-then-more-capacity : goal.returns-then-more-capacity
returns-then-more-capacity c =
    let room = c.capacity.ensures in
    let long = c.len.ensures in
    let fits = c.if-more-capacity.true in
    ((λ t. fits_behind _ _ _ c.args.more c.self.view_is (omega arith)), λ h. refl)

pub returns-then-not-has_first : goal.returns-then-not-has_first
returns-then-not-has_first c = ((λ t. inl (subst IsStill c.self.view_is (is_still _ _ _ _ _ _ _ c.self.invariant c.has_first.ensures c.if-not-has_first.true))), λ h. refl)

pub returns-in-Hold : goal.returns-in-Hold
returns-in-Hold c =
    let k = room_told _ _ _ Hold c.args.more c.self.view_is c.in-Hold.is (not_still _ _ _ _ _ _ _ c.self.invariant c.has_first.ensures c.if-not-has_first.false) in
    let room = c.capacity.ensures in
    let long = c.len.ensures in
    let past = c.if-more-capacity.false in
    (λ t. absurd (cc), λ h. (let fits = leb-true _ _ (k.1 h) in absurd (omega arith)))

pub returns-in-Evict : goal.returns-in-Evict
returns-in-Evict c =
    let k = room_told _ _ _ Evict c.args.more c.self.view_is c.in-Evict.is (not_still _ _ _ _ _ _ _ c.self.invariant c.has_first.ensures c.if-not-has_first.false) in
    let room = c.capacity-in-Evict.ensures in
    (λ t. k.0 (let fits = leb-true _ _ t in le-leb _ _ (omega arith)), λ h. (let fits = leb-true _ _ (k.1 h) in le-leb _ _ (omega arith)))

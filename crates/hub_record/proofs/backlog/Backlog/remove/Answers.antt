use Rattle.std.proofs.Common.{◌-◌, length, nat_eq, refl, sym, ap, arith}
use Rattle.circular_buffer.specs.Buffer.{Buffer}
use Rattle.hub_record.specs.declared.Event.{Event}
use Rattle.hub_record.proofs.Counted.{some_at_place}
use Rattle.hub_record.proofs.Keeps.{cursor_within, slow_below}
use Rattle.hub_record.proofs.Moves.{kept_remove_entry, kept_remove_slow, end_after_cut, cut_held, removes, removes_slow}
use Rattle.hub_record.proofs.backlog.Backlog.remove.Goals as goal

pub invariant_of-self-then-next-self : goal.invariant_of-self-then-next-self
invariant_of-self-then-next-self c = kept_remove_slow _ _ _ _ _ (nat_eq c.args.id) _ _ _ c.self.invariant (sym c.in-Some.ensures.value) c.remove.ensures.entries c.if-next-self.true

pub returns-then-next-self : goal.returns-then-next-self
returns-then-next-self c =
    let found = sym c.in-Some.ensures.value in
    removes_slow _ _ c.args.id _ _ c.self.view_is found (slow_below _ _ _ _ c.in-Some.next (nat_eq c.args.id) _ _ c.self.invariant found c.if-next-self.true) c.remove.ensures.entries

pub one_less-requires-clause-place : goal.one_less-requires-clause-place
one_less-requires-clause-place c =
    let inside = cursor_within _ _ _ _ _ (nat_eq c.args.id) _ _ c.self.invariant (sym c.in-Some.ensures.value) in
    let above = c.if-next-self.false in
    let to = c.self.invariant.to_end in
    omega arith

pub one_less-requires-clause-some : goal.one_less-requires-clause-some
one_less-requires-clause-some c =
    let above = c.if-next-self.false in
    some_at_place c.self.inside.base c.in-Some.next (c.in-Some.next - c.self.inside.base) (nat_eq c.args.id) _ _ c.self.invariant.counted (sym c.in-Some.ensures.value) (omega arith)

pub invariant_of-self-2 : goal.invariant_of-self-2
invariant_of-self-2 c =
    let above = c.if-next-self.false in
    let told = c.release.ensures.count in
    kept_remove_entry _ _ _ _ (length c.self.inside.ring.items) _ (c.in-Some.next - c.self.inside.base) _ _ _ (nat_eq c.args.id) _ _ _ _ _ c.self.invariant refl (sym c.in-Some.ensures.value) c.remove.ensures.entries (omega arith)
    c.one_less.ensures.counts told c.release.ensures.counts (ap (λ (b : Buffer Event). b.capacity) c.release.ensures.events)
    (end_after_cut _ _ _ _ _ (omega arith) c.release.ensures.events)

pub returns : goal.returns
returns c =
    let told = c.release.ensures.count in
    removes _ _ _ c.args.id _ c.self.view_is (sym c.in-Some.ensures.value)
    (cut_held _ _ _ c.self.inside.given _ _ _ _ _ c.self.invariant.lowest (invariant_of-self-2 c).lowest (omega arith) c.remove.ensures.entries c.release.ensures.events)

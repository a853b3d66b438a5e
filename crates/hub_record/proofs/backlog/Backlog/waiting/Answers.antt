use Rattle.std.proofs.Common.{nat_eq, sym, ap, arith}
use Rattle.hub_record.specs.Backlog.{Held}
use Rattle.hub_record.proofs.Keeps.{cursor_within, near_above, slow_below}
use Rattle.hub_record.proofs.Moves.{pending_slow, pending_near}
use Rattle.hub_record.proofs.backlog.Backlog.waiting.Goals as goal

pub returns-then-next-self : goal.returns-then-next-self
returns-then-next-self c =
    let found = sym c.in_ok-next.ensures in
    pending_slow _ _ c.args.id _ c.self.view_is found (slow_below _ _ _ _ c.in_ok-next.next (nat_eq c.args.id) _ _ c.self.invariant found c.if-next-self.true)

pub overflow_sub-result : goal.overflow_sub-result
overflow_sub-result c =
    let inside = cursor_within _ _ _ _ c.in_ok-next.next (nat_eq c.args.id) _ _ c.self.invariant (sym c.in_ok-next.ensures) in
    let end = ap (λ (h : Held). h.end) c.self.view_is in
    omega (arith, c.end.ensures.end)

pub returns : goal.returns
returns c = pending_near _ _ c.args.id _ _ c.self.view_is (sym c.in_ok-next.ensures) (near_above _ _ _ _ c.in_ok-next.next _ _ c.self.invariant c.if-next-self.false) c.end.ensures.end

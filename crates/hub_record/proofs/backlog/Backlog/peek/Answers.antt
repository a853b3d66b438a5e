use Rattle.std.proofs.Common.{nat_eq, refl, sym, ◌∙◌, arith}
use Rattle.hub_record.proofs.Keeps.{cursor_within, slow_below}
use Rattle.hub_record.proofs.Moves.{shows_lost, copies}
use Rattle.hub_record.proofs.backlog.Backlog.peek.Goals as goal

pub returns-then-from-self : goal.returns-then-from-self
returns-then-from-self c =
    let found = sym c.in-Some.ensures in
    shows_lost _ _ c.args.id _ c.args.out.now c.self.view_is found (slow_below _ _ _ _ c.in-Some.from (nat_eq c.args.id) _ _ c.self.invariant found c.if-from-self.true)

pub copy_out-requires : goal.copy_out-requires
copy_out-requires c =
    let inside = cursor_within _ _ _ _ c.in-Some.from (nat_eq c.args.id) _ _ c.self.invariant (sym c.in-Some.ensures) in
    omega arith

pub returns : goal.returns
returns c =
    copies _ _ c.args.id _ c.copy_out.result _ _ _ _ _ c.self.view_is (sym c.in-Some.ensures) c.self.invariant c.if-from-self.false
    (λ e. c.if-from-end.false (e ∙ sym c.end.ensures.end)) refl c.copy_out.ensures.count c.copy_out.ensures.copied

use Rattle.std.proofs.Common.{◌≡◌, ℕ, length, sym, ap, ◌∙◌, subst}
use Rattle.hub_fifodir.specs.declared.views.View.{View}
use Rattle.hub_fifodir.specs.declared.views.Rules.{Rules}
use Rattle.hub_fifodir.specs.declared.locked.Locked.{Locked}
use Rattle.hub_fifodir.specs.Rule.{IsLive, IsBehind, book_of}
use Rattle.hub_fifodir.proofs.Rests.{rests}
use Rattle.hub_fifodir.proofs.Subscriptions.{may_refuse}
use Rattle.hub_fifodir.proofs.Taking.{rests_as_ticket, is_new_taker, id_given}
use Rattle.hub_fifodir.proofs.fifodir.Fifodir.subscribe.Goals as goal

pub rest_as_ticket-requires-clause-gives : goal.rest_as_ticket-requires-clause-gives
rest_as_ticket-requires-clause-gives g c = let t = c.lock-held in let h = t.ensures.holding.1 in let ok = c.in-Ok.ensures in
    rests_as_ticket t.new.seat.at.me t.result.locked c.subscribe.new.self
    (ap (λ (v : View). v.role) h.renews.is ∙ ap (λ (v : View). v.role) c.enter-seat.ensures.view) (ap (λ (v : View). v.held) h.renews.is) h.bounded h.behind (c.in-Ok.id, c.in-Ok.mark) (ok.world h.behind.world h.behind.for) ok.others

pub invariant_of-result : goal.invariant_of-result
invariant_of-result g c = let t = c.lock-held in let h = t.ensures.holding.1 in let w = h.behind.world in let reply = (c.in-Ok.ensures.reply w h.behind.for).1 in record {
  is_taker = is_new_taker t.new.seat.at.me c.rest_as_ticket.new.seat.at.me c.subscribe.new.self c.in-Ok.id c.in-Ok.mark
      (id_given c.subscribe.new.self w (c.in-Ok.id, c.in-Ok.mark) reply (c.in-Ok.ensures.world w h.behind.for))
      (ap (λ (p : ℕ × ℕ). p.1) reply ∙ ap length h.behind.events) h.renews.sound_is c.rest_as_ticket.ensures.view;
}

pub rest_refused-requires-clause-gives : goal.rest_refused-requires-clause-gives
rest_refused-requires-clause-gives g c = let t = c.lock-held in let h = t.ensures.holding.1 in let e = c.in-Err.ensures.err in
    let role = ap (λ (v : View). v.role) h.renews.is ∙ ap (λ (v : View). v.role) c.enter-seat.ensures.view in
    let m = t.new.seat.at.me in
    rests m t.result.locked c.subscribe.new.self (subst IsLive (sym role) tt) (ap (λ (v : View). v.held) h.renews.is) h.bounded (ap book_of e)
    (subst (λ (b : Locked). IsBehind m.0.rules m.0.sight.seen m.0.sight.closed b) (sym e) h.behind)

pub returns-in-Err-clause-refused : goal.returns-in-Err-clause-refused
returns-in-Err-clause-refused g c = let t = c.lock-held in let h = t.ensures.holding.1 in let w = h.behind.world in
    let ruled : t.new.seat.at.me.0.rules ≡ c.args.self.now.rules = ap (λ (v : View). v.rules) h.renews.is ∙ ap (λ (v : View). v.rules) c.enter-seat.ensures.view ∙ c.board-board.ensures.2 in
    may_refuse w c.args.self.now.rules.limits c.in-Err.refusal h.behind.for.for.world (h.behind.limits ∙ ap (λ (r : Rules). r.limits) ruled) (c.in-Err.ensures.reply w h.behind.for)

pub rest_refused-requires-clause-visitor : goal.rest_refused-requires-clause-visitor
rest_refused-requires-clause-visitor g c = ap (λ (v : View). v.role) c.lock-held.ensures.holding.1.renews.is ∙ ap (λ (v : View). v.role) c.enter-seat.ensures.view

use Rattle.std.proofs.Common.{◌≡◌, refl, sym, ap, ◌∙◌, subst}
use Rattle.hub_fifodir.specs.declared.views.Rules.{Rules}
use Rattle.hub_fifodir.specs.declared.views.View.{View}
use Rattle.hub_fifodir.specs.Rule.{IsLive}
use Rattle.hub_fifodir.proofs.Rests.{rests, rests_as_publisher, same_book, still_represents, may_refuse_number}
use Rattle.hub_fifodir.proofs.fifodir.Fifodir.publisher.Goals as goal

pub rest_as_publisher-requires-clause-gives : goal.rest_as_publisher-requires-clause-gives
rest_as_publisher-requires-clause-gives g c = let h = c.lock-held.ensures.holding.1 in let ok = c.in-Ok.ensures in
    rests_as_publisher c.lock-held.new.seat.at.me c.lock-held.result.locked c.publisher.new.self c.in-Ok.number
    (ap (λ (v : View). v.role) h.renews.is ∙ ap (λ (v : View). v.role) c.enter-seat.ensures.view) (ap (λ (v : View). v.held) h.renews.is)
    h.bounded h.fresh ok.reply.2 ok.after.0 ok.after.1 h.behind ok.record ok.counted

pub rest_refused-requires-clause-gives : goal.rest_refused-requires-clause-gives
rest_refused-requires-clause-gives g c = let b = c.lock-held.result.locked in let b' = c.publisher.new.self in
    let h = c.lock-held.ensures.holding.1 in let err = c.in-Err.ensures in let w = h.behind.world in
    let after = still_represents b b' w err.record err.counted h.behind.for in
    let role = ap (λ (v : View). v.role) h.renews.is ∙ ap (λ (v : View). v.role) c.enter-seat.ensures.view in
    rests c.lock-held.new.seat.at.me b b' (subst IsLive (sym role) tt) (ap (λ (v : View). v.held) h.renews.is) h.bounded
    (same_book b b' w w h.behind.for after refl err.after)
    record { world = w; for = after; events = h.behind.events; closed = h.behind.closed; kind = h.behind.kind; limits = h.behind.limits }

pub rest_refused-requires-clause-visitor : goal.rest_refused-requires-clause-visitor
rest_refused-requires-clause-visitor g c = ap (λ (v : View). v.role) c.lock-held.ensures.holding.1.renews.is ∙ ap (λ (v : View). v.role) c.enter-seat.ensures.view

pub returns-in-Err-clause-refused : goal.returns-in-Err-clause-refused
returns-in-Err-clause-refused g c = let t = c.lock-held in let h = t.ensures.holding.1 in
    let ruled : t.new.seat.at.me.0.rules ≡ c.args.self.now.rules = ap (λ (v : View). v.rules) h.renews.is ∙ ap (λ (v : View). v.rules) c.enter-seat.ensures.view ∙ c.board-board.ensures.2 in
    may_refuse_number t.result.locked h.behind.world c.args.self.now.rules.limits c.in-Err.refusal h.behind.for (h.behind.limits ∙ ap (λ (r : Rules). r.limits) ruled) c.in-Err.ensures.reply

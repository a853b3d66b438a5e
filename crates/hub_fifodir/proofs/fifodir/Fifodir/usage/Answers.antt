use Rattle.std.proofs.Common.{◌≡◌, refl, sym, ap, ◌∙◌, subst}
use Rattle.hub_fifodir.specs.declared.views.Rules.{Rules}
use Rattle.hub_fifodir.specs.declared.views.View.{View}
use Rattle.hub_fifodir.specs.Rule.{IsLive}
use Rattle.hub_fifodir.proofs.Rests.{rests}
use Rattle.hub_fifodir.proofs.fifodir.Fifodir.usage.Goals as goal

pub rest_refused-requires-clause-gives : goal.rest_refused-requires-clause-gives
rest_refused-requires-clause-gives g c = let t = c.lock-held in let h = t.ensures.holding.1 in
    let role = ap (λ (v : View). v.role) h.renews.is ∙ ap (λ (v : View). v.role) c.enter-seat.ensures.view in
    rests t.new.seat.at.me t.result.locked t.result.locked (subst IsLive (sym role) tt) (ap (λ (v : View). v.held) h.renews.is) h.bounded refl h.behind

pub rest_refused-requires-clause-visitor : goal.rest_refused-requires-clause-visitor
rest_refused-requires-clause-visitor g c = ap (λ (v : View). v.role) c.lock-held.ensures.holding.1.renews.is ∙ ap (λ (v : View). v.role) c.enter-seat.ensures.view

pub returns : goal.returns
returns g c = let t = c.lock-held in let h = t.ensures.holding.1 in let behind = h.behind in
    let ruled : t.new.seat.at.me.0.rules ≡ c.args.self.now.rules = ap (λ (v : View). v.rules) h.renews.is ∙ ap (λ (v : View). v.rules) c.enter-seat.ensures.view ∙ c.board-board.ensures.2 in record {
      log = t.new.seat.at.me.0.sight.seen;
      mark = t.new.seat.at.me.0.sight.closed;
      locked = t.result.locked;
      behind = record {
        world = behind.world;
        for = behind.for;
        events = behind.events;
        closed = behind.closed;
        kind = behind.kind ∙ ap (λ (r : Rules). r.kind) ruled;
        limits = behind.limits ∙ ap (λ (r : Rules). r.limits) ruled;
      };
      bounded = h.bounded;
      is = c.usage-usage.ensures behind.world behind.for;
    }

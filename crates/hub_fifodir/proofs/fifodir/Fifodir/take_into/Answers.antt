use Rattle.std.proofs.Common.{ℕ, ◌+◌, ◌-◌, ◌<◌, ◌++◌, min, drop, length, refl, sym, ap, ◌∙◌, subst, Ok}
use Rattle.hub_record.specs.declared.Taken.{Taken}
use Rattle.hub_fifodir.specs.declared.views.Sight.{Sight}
use Rattle.hub_fifodir.specs.Passes.{is_evicted_by}
use Rattle.hub_fifodir.specs.Events.{slice}
use Rattle.hub_fifodir.specs.Steps.{M}
use Rattle.hub_fifodir.proofs.Taking.{is_answered, on_got, on_nothing, on_end, on_evicted, count_active, rules_moved, rules_still, rests_still, rests_moved, moved_taker, sight_moved, got_moved, got_still, filled_moved}
use Rattle.hub_fifodir.proofs.fifodir.Fifodir.take_into.Goals as goal

pub unwrap-taken-requires : goal.unwrap-taken-requires
unwrap-taken-requires g c = let me = c.args.me.now in let t = c.lock-held in let h = t.ensures.holding.1 in
    is_answered me.seat.at.me t.new.seat.at.me me.id me.mark me.next t.result.locked me.is_taker h (length c.args.out.now) c.take_into.result (c.take_into.ensures.reply h.behind.world h.behind.for)

pub rest_moved-requires-clause-gives : goal.rest_moved-requires-clause-gives
rest_moved-requires-clause-gives g c = let me = c.args.me.now in let t = c.lock-held in let h = t.ensures.holding.1 in let e = c.take_into.ensures in let w = h.behind.world in
    rests_moved me.seat.at.me t.new.seat.at.me me.id me.mark me.next t.result.locked me.is_taker h c.take_into.new.self (length c.args.out.now) (e.world w h.behind.for) e.others c.in-Got.count
    (on_got me.seat.at.me t.new.seat.at.me me.id me.mark me.next t.result.locked me.is_taker h (length c.args.out.now) c.in-Got.count c.take_into.result (e.reply w h.behind.for) (c.unwrap-taken.ensures ∙ ap (λ (x : Taken). Ok x) c.in-Got.is)).1

pub invariant_of-me : goal.invariant_of-me
invariant_of-me g c = let me = c.args.me.now in let t = c.lock-held in let h = t.ensures.holding.1 in let e = c.take_into.ensures in let w = h.behind.world in record {
  is_taker = moved_taker me.seat.at.me t.new.seat.at.me me.id me.mark me.next t.result.locked me.is_taker h c.take_into.new.self (length c.args.out.now) (e.world w h.behind.for) e.others c.in-Got.count
      (on_got me.seat.at.me t.new.seat.at.me me.id me.mark me.next t.result.locked me.is_taker h (length c.args.out.now) c.in-Got.count c.take_into.result (e.reply w h.behind.for) (c.unwrap-taken.ensures ∙ ap (λ (x : Taken). Ok x) c.in-Got.is)).1
      c.rest_moved.new.seat.at.me c.rest_moved.ensures.view;
}

pub rest-requires-clause-gives : goal.rest-requires-clause-gives
rest-requires-clause-gives g c = let me = c.args.me.now in let t = c.lock-held in let h = t.ensures.holding.1 in let e = c.take_into.ensures in let w = h.behind.world in
    rests_still me.seat.at.me t.new.seat.at.me me.id me.mark me.next t.result.locked me.is_taker h c.take_into.new.self (length c.args.out.now) (e.world w h.behind.for) e.others
    (on_nothing me.seat.at.me t.new.seat.at.me me.id me.mark me.next t.result.locked me.is_taker h (length c.args.out.now) c.take_into.result (e.reply w h.behind.for) (c.unwrap-taken.ensures ∙ ap (λ (x : Taken). Ok x) c.in-Nothing.is)).2

pub rest-requires-in-End-clause-gives : goal.rest-requires-in-End-clause-gives
rest-requires-in-End-clause-gives g c = let me = c.args.me.now in let t = c.lock-held in let h = t.ensures.holding.1 in let e = c.take_into.ensures in let w = h.behind.world in
    rests_still me.seat.at.me t.new.seat.at.me me.id me.mark me.next t.result.locked me.is_taker h c.take_into.new.self (length c.args.out.now) (e.world w h.behind.for) e.others
    (on_end me.seat.at.me t.new.seat.at.me me.id me.mark me.next t.result.locked me.is_taker h (length c.args.out.now) c.take_into.result (e.reply w h.behind.for) (c.unwrap-taken.ensures ∙ ap (λ (x : Taken). Ok x) c.in-End.is)).2

pub rest-requires-in-Evicted-clause-gives : goal.rest-requires-in-Evicted-clause-gives
rest-requires-in-Evicted-clause-gives g c = let me = c.args.me.now in let t = c.lock-held in let h = t.ensures.holding.1 in let e = c.take_into.ensures in let w = h.behind.world in
    rests_still me.seat.at.me t.new.seat.at.me me.id me.mark me.next t.result.locked me.is_taker h c.take_into.new.self (length c.args.out.now) (e.world w h.behind.for) e.others
    (on_evicted me.seat.at.me t.new.seat.at.me me.id me.mark me.next t.result.locked me.is_taker h (length c.args.out.now) c.take_into.result (e.reply w h.behind.for) (c.unwrap-taken.ensures ∙ ap (λ (x : Taken). Ok x) c.in-Evicted.is)).1

pub returns-in-Got-clause-took : goal.returns-in-Got-clause-took
returns-in-Got-clause-took g c = let me = c.args.me.now in let t = c.lock-held in let h = t.ensures.holding.1 in let e = c.take_into.ensures in let w = h.behind.world in
    let is = on_got me.seat.at.me t.new.seat.at.me me.id me.mark me.next t.result.locked me.is_taker h (length c.args.out.now) c.in-Got.count c.take_into.result (e.reply w h.behind.for) (c.unwrap-taken.ensures ∙ ap (λ (x : Taken). Ok x) c.in-Got.is) in
    let same = sight_moved me.seat.at.me t.new.seat.at.me me.id me.mark me.next t.result.locked me.is_taker h c.take_into.new.self (length c.args.out.now) (e.world w h.behind.for) e.others c.in-Got.count is.1 c.rest_moved.new.seat.at.me c.rest_moved.ensures.view in
    let rules = rules_moved me.seat.at.me t.new.seat.at.me me.id me.mark me.next t.result.locked me.is_taker h c.take_into.new.self (length c.args.out.now) (e.world w h.behind.for) e.others c.in-Got.count is.1 c.rest_moved.new.seat.at.me c.rest_moved.ensures.view in (
      (
        subst (λ (s : Sight). me.next < length s.seen) (sym same) is.0,
        is.1 ∙ count_active me.seat.at.me t.new.seat.at.me me.id me.mark me.next t.result.locked me.is_taker h (length c.args.out.now) is.2 ∙ ap (λ (s : Sight). min (length c.args.out.now) (length s.seen - me.next)) (sym same),
        (λ i. is_evicted_by (rules i) (same i) me.next) ∙ is.2,
      ),
      (refl, got_moved me.seat.at.me t.new.seat.at.me me.id me.mark me.next t.result.locked me.is_taker h c.take_into.new.self (length c.args.out.now) (e.world w h.behind.for) e.others c.in-Got.count is.1 c.rest_moved.new.seat.at.me c.rest_moved.ensures.view),
    )

pub returns-in-Got-clause-filled : goal.returns-in-Got-clause-filled
returns-in-Got-clause-filled g c = let me = c.args.me.now in let t = c.lock-held in let h = t.ensures.holding.1 in let e = c.take_into.ensures in let w = h.behind.world in
    let is = on_got me.seat.at.me t.new.seat.at.me me.id me.mark me.next t.result.locked me.is_taker h (length c.args.out.now) c.in-Got.count c.take_into.result (e.reply w h.behind.for) (c.unwrap-taken.ensures ∙ ap (λ (x : Taken). Ok x) c.in-Got.is) in
    let same = sight_moved me.seat.at.me t.new.seat.at.me me.id me.mark me.next t.result.locked me.is_taker h c.take_into.new.self (length c.args.out.now) (e.world w h.behind.for) e.others c.in-Got.count is.1 c.rest_moved.new.seat.at.me c.rest_moved.ensures.view in
    filled_moved me.seat.at.me t.new.seat.at.me me.id me.mark me.next t.result.locked me.is_taker h (length c.args.out.now) c.args.out.now c.take_into.new.out (e.filled w h.behind.for)
    ∙ ap (λ (n : ℕ). slice me.next (me.next + n) t.new.seat.at.me.0.sight.seen ++ drop n c.args.out.now) (sym is.1) ∙ ap (λ (s : Sight). slice me.next (me.next + c.in-Got.count) s.seen ++ drop c.in-Got.count c.args.out.now) (sym same)

pub returns-in-Nothing-clause-took : goal.returns-in-Nothing-clause-took
returns-in-Nothing-clause-took g c = let me = c.args.me.now in let t = c.lock-held in let h = t.ensures.holding.1 in let e = c.take_into.ensures in let w = h.behind.world in
    let is = on_nothing me.seat.at.me t.new.seat.at.me me.id me.mark me.next t.result.locked me.is_taker h (length c.args.out.now) c.take_into.result (e.reply w h.behind.for) (c.unwrap-taken.ensures ∙ ap (λ (x : Taken). Ok x) c.in-Nothing.is) in
    let view = c.rest.ensures.view in (
      (is.0 ∙ sym (ap (λ (m : M). length m.0.sight.seen) view), ap (λ (m : M). m.0.sight.closed) view ∙ is.1),
      (refl, got_still me.seat.at.me t.new.seat.at.me me.id me.mark me.next t.result.locked me.is_taker h c.rest.new.seat.at.me view),
    )

pub returns-in-End-clause-took : goal.returns-in-End-clause-took
returns-in-End-clause-took g c = let me = c.args.me.now in let t = c.lock-held in let h = t.ensures.holding.1 in let e = c.take_into.ensures in let w = h.behind.world in
    let is = on_end me.seat.at.me t.new.seat.at.me me.id me.mark me.next t.result.locked me.is_taker h (length c.args.out.now) c.take_into.result (e.reply w h.behind.for) (c.unwrap-taken.ensures ∙ ap (λ (x : Taken). Ok x) c.in-End.is) in
    let view = c.rest-in-End.ensures.view in (
      (is.0 ∙ sym (ap (λ (m : M). length m.0.sight.seen) view), (λ z. is.1 (sym (ap (λ (m : M). m.0.sight.closed) view) ∙ z))),
      (refl, got_still me.seat.at.me t.new.seat.at.me me.id me.mark me.next t.result.locked me.is_taker h c.rest-in-End.new.seat.at.me view),
    )

pub returns-in-Evicted-clause-took : goal.returns-in-Evicted-clause-took
returns-in-Evicted-clause-took g c = let me = c.args.me.now in let t = c.lock-held in let h = t.ensures.holding.1 in let e = c.take_into.ensures in let w = h.behind.world in
    let is = on_evicted me.seat.at.me t.new.seat.at.me me.id me.mark me.next t.result.locked me.is_taker h (length c.args.out.now) c.take_into.result (e.reply w h.behind.for) (c.unwrap-taken.ensures ∙ ap (λ (x : Taken). Ok x) c.in-Evicted.is) in
    let view = c.rest-in-Evicted.ensures.view in (
      (λ i. is_evicted_by (rules_still me.seat.at.me t.new.seat.at.me me.id me.mark me.next t.result.locked me.is_taker h c.rest-in-Evicted.new.seat.at.me view i) (ap (λ (m : M). m.0.sight) view i) me.next) ∙ is.0,
      (refl, got_still me.seat.at.me t.new.seat.at.me me.id me.mark me.next t.result.locked me.is_taker h c.rest-in-Evicted.new.seat.at.me view),
    )

use Rattle.std.proofs.Common.{sym, ap, ◌∙◌}
use Rattle.hub_record.specs.World.{after_close}
use Rattle.hub_fifodir.specs.Steps.{M}
use Rattle.hub_fifodir.proofs.Publishing.{within_events, shut_by, shut_already, closed_when, rests_refused, knew_own, may_mark, rests_shut}
use Rattle.hub_fifodir.proofs.fifodir.Fifodir.close.Goals as goal

pub pack-word-requires : goal.pack-word-requires
pack-word-requires g c = let h = c.lock-held.ensures.holding.1 in let ok = c.in-Ok.ensures in let w = h.behind.world in
    within_events (after_close w) c.status.result (ok.world w h.behind.for) (c.status.ensures _ (ok.world w h.behind.for))

pub write_mark-requires-clause-writes : goal.write_mark-requires-clause-writes
write_mark-requires-clause-writes g c = let me = c.args.me.now in let t = c.lock-held in let h = t.ensures.holding.1 in let ok = c.in-Ok.ensures in let w = h.behind.world in
    may_mark me.seat.at.me t.new.seat.at.me me.number t.result.locked me.is_writer h c.close.new.self (shut_by w (ok.reply w h.behind.for)) (ok.world w h.behind.for) ok.others me.positive
    _ c.pack-word.result (c.status.ensures _ (ok.world w h.behind.for)) c.pack-word.ensures

pub rest-requires-clause-gives : goal.rest-requires-clause-gives
rest-requires-clause-gives g c = let me = c.args.me.now in let t = c.lock-held in let h = t.ensures.holding.1 in let ok = c.in-Ok.ensures in let w = h.behind.world in
    rests_shut me.seat.at.me t.new.seat.at.me me.number t.result.locked me.is_writer h c.close.new.self (shut_by w (ok.reply w h.behind.for)) (ok.world w h.behind.for) ok.others me.positive c.write_mark.new.seat.at.me c.write_mark.ensures.view

pub rest-requires-in-Err-clause-gives : goal.rest-requires-in-Err-clause-gives
rest-requires-in-Err-clause-gives g c = let me = c.args.me.now in let t = c.lock-held in
    rests_refused me.seat.at.me t.new.seat.at.me me.number t.result.locked me.is_writer t.ensures.holding.1 c.close.new.self c.in-Err.ensures.err

pub returns-in-Err-clause-err : goal.returns-in-Err-clause-err
returns-in-Err-clause-err g c = let me = c.args.me.now in let t = c.lock-held in let h = t.ensures.holding.1 in let w = h.behind.world in
    let same = ap (λ (m : M). m.0.sight.closed) c.rest-in-Err.ensures.view in (
      (λ z. closed_when t.new.seat.at.me.0.sight.closed w.closed h.behind.closed (shut_already w _ (c.in-Err.ensures.reply w h.behind.for)) (sym same ∙ z)),
      λ e. knew_own me.seat.at.me t.new.seat.at.me me.number t.result.locked me.is_writer h me.positive (sym same ∙ e),
    )

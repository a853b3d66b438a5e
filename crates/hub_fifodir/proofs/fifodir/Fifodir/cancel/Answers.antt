use Rattle.hub_fifodir.proofs.Taking.{is_cancelled, rests_cancelled}
use Rattle.hub_fifodir.proofs.fifodir.Fifodir.cancel.Goals as goal

pub unwrap-requires : goal.unwrap-requires
unwrap-requires g c = let me = c.args.me in let t = c.lock-held in let h = t.ensures.holding.1 in
    is_cancelled me.seat.at.me t.new.seat.at.me me.id me.mark me.next t.result.locked me.is_taker h c.cancel.result (c.cancel.ensures.reply h.behind.world h.behind.for)

pub rest_gone-requires-clause-gives : goal.rest_gone-requires-clause-gives
rest_gone-requires-clause-gives g c = let me = c.args.me in let t = c.lock-held in let h = t.ensures.holding.1 in
    rests_cancelled me.seat.at.me t.new.seat.at.me me.id me.mark me.next t.result.locked me.is_taker h c.cancel.new.self (c.cancel.ensures.world h.behind.world h.behind.for) c.cancel.ensures.others

use Rattle.std.proofs.Common.{ap, ◌∙◌}
use Rattle.hub_fifodir.specs.declared.views.View.{View}
use Rattle.hub_fifodir.specs.Steps.{mine_of}
use Rattle.hub_fifodir.proofs.Rests.{rests_left}
use Rattle.hub_fifodir.proofs.fifodir.Fifodir.leave.Goals as goal

pub rest_gone-requires-clause-gives : goal.rest_gone-requires-clause-gives
rest_gone-requires-clause-gives g c = let h = c.lock-held.ensures.holding.1 in let me = c.args.me in
    rests_left c.lock-held.new.seat.at.me c.lock-held.result.locked c.leave.new.self me.number (mine_of me.seat.at.me.0.role)
    (ap (λ (v : View). v.role) h.renews.is ∙ me.is_writer.role) (ap (λ (v : View). v.held) h.renews.is) h.bounded h.behind c.leave.ensures.left c.leave.ensures.record c.leave.ensures.counted

use Rattle.std.proofs.Common.{◌+◌, ◌++◌, ◌∷◌, [], arith, ap, subst, sym, ◌∙◌}
use Rattle.hub_server.specs.Promised.{IsShare}
use Rattle.hub_server.proofs.GivenSessions.{gave_another, over_one_more, stops_for_one_more}
use Rattle.hub_server.proofs.together.start_all.Goals as goal

pub returns-in_err-session-in-Session-clause-err : goal.returns-in_err-session-in-Session-clause-err
returns-in_err-session-in-Session-clause-err g c =
    stops_for_one_more _ _ _ _ _ _ c.in-Session.reader c.in-Session.writer c.from_residual.result (omega arith) c.sessions.invariant.gave c.in-Session.ensures

pub sessions-preserved : goal.sessions-preserved
sessions-preserved g c =
    let pushed = c.push_reserved.ensures.items ∙ ap (λ items. items ++ c.in_ok-session-in-Session.session ∷ []) (c.reserve-room.ensures.items ∙ c.join_over.ensures) in
    let more = gave_another g.G.Gate.gives c.args.gate.now c.sessions.gate c.next.new.self _ _ c.in_ok-session-in-Session.session _ _ pushed c.in_ok-session-in-Session.ensures.reader c.in_ok-session-in-Session.ensures.writer
    c.sessions.invariant.gave c.in-Session.ensures in
    let here = subst (IsShare g.O.Desks.opens g.O.Desks.stay c.args.desks.now) (sym c.in_ok-session-in-Session.ensures.desks) c.in-Ok-Ok-Ok.ensures in
    let over = over_one_more g.O.Desks.opens g.O.Desks.stay c.args.desks.now _ _ c.in_ok-session-in-Session.session pushed c.sessions.invariant.over here in
    record { gave = more.0; over = over; counted = more.1 ∙ ap (λ n. n + 1) c.sessions.invariant.counted }

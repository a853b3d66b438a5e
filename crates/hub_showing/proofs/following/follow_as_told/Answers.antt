use Rattle.std.proofs.Common.{refl, sym, inl, ◌∙◌}
use Rattle.hub_dialing.specs.Dialing.{dialing}
use Rattle.hub_showing.proofs.Followings.{limit_told, told_by_limit, told_in_vain}
use Rattle.hub_showing.proofs.following.follow_as_told.Goals as goal

pub returns-then-follow_breaks : goal.returns-then-follow_breaks
returns-then-follow_breaks g c = (inl (refl, sym c.follow_breaks.ensures ∙ c.if-follow_breaks.true), refl, refl)

pub returns-in_err-limit : goal.returns-in_err-limit
returns-in_err-limit g c =
    told_by_limit (dialing g.D.Dial.reaches g.D.Receiver.Read.remaining g.D.Sender.Write.contents) c.args.socket.now (record { contents = g.F.Write.contents; faults = g.F.Sink.faults }) _ _ c.args.wanted _ _ c.in_err-limit.field-0.0 (sym c.follow_breaks.ensures ∙ c.if-follow_breaks.false) c.from_residual.ensures.1 c.in_err-limit.ensures refl refl

pub follow_on-requires : goal.follow_on-requires
follow_on-requires g c = c.until_of-until.ensures ∙ limit_told (λ text. text.now) c.args.wanted.timeout c.in_ok-limit.limit c.in_ok-limit.ensures

pub returns-in_err-outcome : goal.returns-in_err-outcome
returns-in_err-outcome g c =
    told_in_vain (dialing g.D.Dial.reaches g.D.Receiver.Read.remaining g.D.Sender.Write.contents) c.args.socket.now (record { contents = g.F.Write.contents; faults = g.F.Sink.faults }) _ _ c.args.wanted _ _ c.in_err-outcome.field-0.0 (sym c.follow_breaks.ensures ∙ c.if-follow_breaks.false, (c.in_ok-limit.limit, c.in_ok-limit.ensures)) c.from_residual-in_err-outcome.ensures.1 c.in_err-outcome.ensures

pub returns : goal.returns
returns g c = ((sym c.follow_breaks.ensures ∙ c.if-follow_breaks.false, (c.in_ok-limit.limit, c.in_ok-limit.ensures)), (c.in_ok-outcome.outcome, c.status.ensures, c.in_ok-outcome.ensures))

use Rattle.std.proofs.Common.{◌≡◌, ◌∙◌, inl, inr, refl, true, false, subst, MatchOption}
use Rattle.hub_ask.specs.Streams.{streams}
use Rattle.hub_requests.specs.Names.{is_name}
use Rattle.hub_requests.specs.declared.request.Request.TheVariants as request
use Rattle.hub_dialing.specs.Dialing.{dialing}
use Rattle.hub_commands.specs.Holding.{IsAsked}
use Rattle.hub_commands.proofs.Held.{holds_in_vain, holds_so}
use Rattle.hub_commands.proofs.holding.hold_as_told.Goals as goal

pub returns-in_err-outcome : goal.returns-in_err-outcome
returns-in_err-outcome g c =
    let bytes = c.as_bytes.result.now in
    let named = subst (λ it. MatchOption it (is_name bytes ≡ false) (λ name. (is_name bytes ≡ true) × (name ≡ bytes))) c.in-Some.is c.in_ok-named.ensures.ok in
    holds_in_vain (dialing g.D.Dial.reaches g.D.Receiver.Read.remaining g.D.Sender.Write.contents) c.args.dialer.now c.tie.new.self c.args.socket.now (record { contents = g.F.Write.contents; faults = g.F.Sink.faults }) c.args.notes.now c.ask_each.new.notes
    (record { remaining = g.R.Read.remaining; reads = g.R.Source.reads; faults = g.R.Source.faults }) c.args.input.now c.args.input.now c.args.hold.name.now c.in-Some.named c.args.hold.will c.args.hold.told c.in_ok-told.told
    _ c.in_err-outcome.field-0.0 c.in_ok-receiver.receiver c.in_ok-receiver.sender c.new-client.result c.ask_each.new.client (named.1 ∙ c.as_bytes.ensures.value) c.in_ok-told.ensures c.from_residual-in_err-outcome.ensures.1
    c.in_ok-receiver.ensures.ok c.new-client.ensures (inl (c.in_err-outcome.ensures.err, refl))

pub returns-in_err-hold_on : goal.returns-in_err-hold_on
returns-in_err-hold_on g c =
    let bytes = c.as_bytes.result.now in
    let named = subst (λ it. MatchOption it (is_name bytes ≡ false) (λ name. (is_name bytes ≡ true) × (name ≡ bytes))) c.in-Some.is c.in_ok-named.ensures.ok in
    holds_in_vain (dialing g.D.Dial.reaches g.D.Receiver.Read.remaining g.D.Sender.Write.contents) c.args.dialer.now c.tie.new.self c.args.socket.now (record { contents = g.F.Write.contents; faults = g.F.Sink.faults }) c.args.notes.now c.ask_each.new.notes
    (record { remaining = g.R.Read.remaining; reads = g.R.Source.reads; faults = g.R.Source.faults }) c.args.input.now c.hold_on.new.input c.args.hold.name.now c.in-Some.named c.args.hold.will c.args.hold.told c.in_ok-told.told
    _ c.in_err-hold_on.field-0.0 c.in_ok-receiver.receiver c.in_ok-receiver.sender c.new-client.result c.ask_each.new.client (named.1 ∙ c.as_bytes.ensures.value) c.in_ok-told.ensures c.from_residual-in_err-hold_on.ensures.1
    c.in_ok-receiver.ensures.ok c.new-client.ensures (inr (
      (subst (λ it. IsAsked (streams g.D.Sender.Write.contents g.D.Receiver.Read.remaining g.F.Write.contents g.F.Sink.faults c.new-client.result c.args.notes.now)
          (streams g.D.Sender.Write.contents g.D.Receiver.Read.remaining g.F.Write.contents g.F.Sink.faults c.ask_each.new.client c.ask_each.new.notes) (request.Will c.in-Some.named c.args.hold.will) c.in_ok-told.told c.args.hold.name.now it)
          c.in_err-hold_on.ensures.err.0 c.in_ok-outcome.ensures.ok),
      c.in_err-hold_on.ensures.err.1,
    ))

pub returns : goal.returns
returns g c =
    let bytes = c.as_bytes.result.now in
    let named = subst (λ it. MatchOption it (is_name bytes ≡ false) (λ name. (is_name bytes ≡ true) × (name ≡ bytes))) c.in-Some.is c.in_ok-named.ensures.ok in
    holds_so (dialing g.D.Dial.reaches g.D.Receiver.Read.remaining g.D.Sender.Write.contents) c.args.dialer.now c.tie.new.self c.args.socket.now (record { contents = g.F.Write.contents; faults = g.F.Sink.faults }) c.args.notes.now c.ask_each.new.notes
    (record { remaining = g.R.Read.remaining; reads = g.R.Source.reads; faults = g.R.Source.faults }) c.args.input.now c.hold_on.new.input c.args.hold.name.now c.in-Some.named c.args.hold.will c.args.hold.told c.in_ok-told.told
    c.status.result c.in_ok-outcome.outcome c.in_ok-receiver.receiver c.in_ok-receiver.sender c.new-client.result c.ask_each.new.client (named.1 ∙ c.as_bytes.ensures.value) c.in_ok-told.ensures c.status.ensures
    c.in_ok-receiver.ensures.ok c.new-client.ensures c.in_ok-outcome.ensures.ok c.in_ok-hold_on.ensures.ok

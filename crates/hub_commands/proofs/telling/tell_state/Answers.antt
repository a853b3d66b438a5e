use Rattle.std.proofs.Common.{◌≡◌, ◌∙◌, true, false, subst, MatchOption}
use Rattle.hub_requests.specs.Names.{is_name}
use Rattle.hub_dialing.specs.Dialing.{dialing}
use Rattle.hub_commands.proofs.Told.{tells_in_vain, tells_so}
use Rattle.hub_commands.proofs.telling.tell_state.Goals as goal

pub returns-in_err-outcome : goal.returns-in_err-outcome
returns-in_err-outcome g c =
    let bytes = c.as_bytes.result.now in
    let named = subst (λ it. MatchOption it (is_name bytes ≡ false) (λ name. (is_name bytes ≡ true) × (name ≡ bytes))) c.in-Some.is c.in_ok-named.ensures.ok in
    tells_in_vain (dialing g.D.Dial.reaches g.D.Receiver.Read.remaining g.D.Sender.Write.contents) c.args.dialer.now c.dial.new.self c.args.socket.now (record { contents = g.F.Write.contents; faults = g.F.Sink.faults }) c.args.notes.now c.tell.new.notes c.args.name.now c.in-Some.named c.args.state
    _ c.in_err-outcome.field-0.0 c.in_ok-receiver.receiver c.in_ok-receiver.sender c.new-client.result c.tell.new.client (named.1 ∙ c.as_bytes.ensures.value) c.from_residual-in_err-outcome.ensures.1
    c.in_ok-receiver.ensures c.new-client.ensures c.in_err-outcome.ensures.err

pub returns : goal.returns
returns g c =
    let bytes = c.as_bytes.result.now in
    let named = subst (λ it. MatchOption it (is_name bytes ≡ false) (λ name. (is_name bytes ≡ true) × (name ≡ bytes))) c.in-Some.is c.in_ok-named.ensures.ok in
    tells_so (dialing g.D.Dial.reaches g.D.Receiver.Read.remaining g.D.Sender.Write.contents) c.args.dialer.now c.dial.new.self c.args.socket.now (record { contents = g.F.Write.contents; faults = g.F.Sink.faults }) c.args.notes.now c.tell.new.notes c.args.name.now c.in-Some.named c.args.state
    c.status.result c.in_ok-outcome.outcome c.in_ok-receiver.receiver c.in_ok-receiver.sender c.new-client.result c.tell.new.client (named.1 ∙ c.as_bytes.ensures.value) c.status.ensures
    c.in_ok-receiver.ensures c.new-client.ensures c.in_ok-outcome.ensures.ok

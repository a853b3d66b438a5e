use Rattle.std.proofs.Common.{ap, sym, ◌∙◌}
use Rattle.hub_dialing.specs.Dialing.{dialing}
use Rattle.hub_showing.proofs.Lookings.{shows_in_vain, shows_so}
use Rattle.hub_showing.proofs.showing.show_status.Goals as goal

pub returns-in_err-outcome : goal.returns-in_err-outcome
returns-in_err-outcome g c =
    shows_in_vain (dialing g.D.Dial.reaches g.D.Receiver.Read.remaining g.D.Sender.Write.contents) c.args.dialer.now c.dial.new.self c.args.socket.now (record { contents = g.F.Write.contents; faults = g.F.Sink.faults }) c.args.notes.now c.show_states.new.notes (λ name. name.now) c.args.is_json c.args.names.now _ _ _ _ c.in_err-outcome.field-0.0
    c.in_ok-receive.receive c.show_states.new.peer.client.receiver c.in_ok-receive.send c.show_states.new.peer.client.sender c.show_states.new.peer.begun.value _ _ (sym c.any_breaks.ensures ∙ c.if-any_breaks.false) c.from_residual-in_err-outcome.ensures.1
    c.in_ok-receive.ensures (ap (λ it. it.value) c.in_err-outcome.ensures.begun ∙ c.new-peer.ensures.begun) c.show_states.new.peer.only c.new-peer.ensures.sent c.new-peer.ensures.had c.in_err-outcome.ensures.err

pub returns : goal.returns
returns g c =
    shows_so (dialing g.D.Dial.reaches g.D.Receiver.Read.remaining g.D.Sender.Write.contents) c.args.dialer.now c.dial.new.self c.args.socket.now (record { contents = g.F.Write.contents; faults = g.F.Sink.faults }) c.args.notes.now c.show_states.new.notes (λ name. name.now) c.args.is_json c.args.names.now (Unit {0}) _ _ c.status.result c.in_ok-outcome.outcome
    c.in_ok-receive.receive c.show_states.new.peer.client.receiver c.in_ok-receive.send c.show_states.new.peer.client.sender c.show_states.new.peer.begun.value _ _ (sym c.any_breaks.ensures ∙ c.if-any_breaks.false) c.status.ensures
    c.in_ok-receive.ensures (ap (λ it. it.value) c.in_ok-outcome.ensures.begun ∙ c.new-peer.ensures.begun) c.show_states.new.peer.only c.new-peer.ensures.sent c.new-peer.ensures.had c.in_ok-outcome.ensures.ok

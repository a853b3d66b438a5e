use Rattle.std.proofs.Common.{◌≡◌, ◌∙◌, IfSome, map, subst}
use Rattle.hub_dialing.specs.Dialing.{dialing}
use Rattle.hub_commands.proofs.Makes.{makes_in_vain, makes_so}
use Rattle.hub_commands.proofs.making.make_fifodirs.Goals as goal

pub returns-in_err-outcome : goal.returns-in_err-outcome
returns-in_err-outcome g c =
    let named = subst (λ it. IfSome it (λ names. names.items ≡ map (λ text. text.now) c.args.names.now)) c.in-Some.is c.in_ok-names.ensures.some in
    makes_in_vain (λ name. name.now) (dialing g.D.Dial.reaches g.D.Receiver.Read.remaining g.D.Sender.Write.contents) c.args.dialer.now c.dial.new.self c.args.socket.now (record { contents = g.F.Write.contents; faults = g.F.Sink.faults }) c.args.notes.now c.make_each.new.notes c.args.names.now c.deref.result.now c.args.shape
    _ c.in_err-outcome.field-0.0 c.in_ok-receiver.receiver c.in_ok-receiver.sender c.new-client.result c.make_each.new.client (c.deref.ensures.value ∙ named) c.from_residual-in_err-outcome.ensures.1
    c.in_ok-receiver.ensures c.new-client.ensures c.in_err-outcome.ensures.err

pub returns : goal.returns
returns g c =
    let named = subst (λ it. IfSome it (λ names. names.items ≡ map (λ text. text.now) c.args.names.now)) c.in-Some.is c.in_ok-names.ensures.some in
    makes_so (λ name. name.now) (dialing g.D.Dial.reaches g.D.Receiver.Read.remaining g.D.Sender.Write.contents) c.args.dialer.now c.dial.new.self c.args.socket.now (record { contents = g.F.Write.contents; faults = g.F.Sink.faults }) c.args.notes.now c.make_each.new.notes c.args.names.now c.deref.result.now c.args.shape
    c.status.result c.in_ok-outcome.outcome c.in_ok-receiver.receiver c.in_ok-receiver.sender c.new-client.result c.make_each.new.client (c.deref.ensures.value ∙ named) c.status.ensures
    c.in_ok-receiver.ensures c.new-client.ensures c.in_ok-outcome.ensures.ok

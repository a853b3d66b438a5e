use Rattle.std.proofs.Common.{◌≡◌, IfSome, refl, subst}
use Rattle.hub_ask.specs.Lines.{bytes_of, joined}
use Rattle.hub_dialing.specs.Dialing.{dialing}
use Rattle.hub_commands.proofs.Requested.{asks_in_vain, asks_so}
use Rattle.hub_commands.proofs.asking.ask_words.Goals as goal

pub returns-in_err-heard : goal.returns-in_err-heard
returns-in_err-heard g c =
    let words = joined (λ word. word.now) c.args.words.now in
    let is : bytes_of c.in-Some.line ≡ words = subst (λ it. IfSome it (λ line. bytes_of line ≡ words)) c.in-Some.is c.in_ok-line.ensures.line in
    asks_in_vain (dialing g.D.Dial.reaches g.D.Receiver.Read.remaining g.D.Sender.Write.contents) c.args.dialer.now c.dial.new.self c.args.socket.now (bytes_of c.in-Some.line) words c.turns_asked-turns.result (record { contents = g.F.Write.contents; faults = g.F.Sink.faults }) c.args.notes.now c.args.notes.now _ _ _ _ c.in_err-heard.field-0.0
    c.in_ok-receiver.receiver c.ask.new.client.receiver c.in_ok-receiver.sender c.ask.new.client.sender is c.in-Some.line.cut c.turns_asked-turns.ensures.few
    c.from_residual-in_err-heard.ensures.1 c.in_ok-receiver.ensures c.in_err-heard.ensures.err refl

pub returns : goal.returns
returns g c =
    let words = joined (λ word. word.now) c.args.words.now in
    let is : bytes_of c.in-Some.line ≡ words = subst (λ it. IfSome it (λ line. bytes_of line ≡ words)) c.in-Some.is c.in_ok-line.ensures.line in
    asks_so (dialing g.D.Dial.reaches g.D.Receiver.Read.remaining g.D.Sender.Write.contents) c.args.dialer.now c.dial.new.self c.args.socket.now (bytes_of c.in-Some.line) words c.as_bytes.result.now c.turns_asked-turns.result (record { contents = g.F.Write.contents; faults = g.F.Sink.faults }) c.args.notes.now c.note_hint.new.notes (Unit {0}) _ _
    c.status.result c.of_reply.result _ c.reply-reply.result c.reply-reply.ensures c.in_ok-receiver.receiver c.ask.new.client.receiver c.in_ok-receiver.sender c.ask.new.client.sender is c.as_bytes.ensures.bytes c.in-Some.line.cut c.turns_asked-turns.ensures.few
    c.status.ensures c.of_reply.ensures c.in_ok-receiver.ensures c.in_ok-heard.ensures.ok c.note_hint.ensures

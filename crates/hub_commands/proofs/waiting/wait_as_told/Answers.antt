use Rattle.std.proofs.Common.{◌≡◌, ◌∙◌, ℕ, List, length, Bor, IfSome, Ok, ap, subst}
use Rattle.std.specs.List.{list_all}
use Rattle.hub_ask.specs.Lines.{bytes_of, joined}
use Rattle.hub_ask.specs.Waiting.{wait_words}
use Rattle.hub_dialing.specs.Dialing.{dialing}
use Rattle.hub_requests.specs.Names.{is_name}
use Rattle.hub_commands.specs.Waiting.{AreOneWait, wishing}
use Rattle.hub_commands.proofs.Waits.{waits_so}
use Rattle.hub_commands.proofs.waiting.wait_as_told.Goals as goal

pub returns-clause-waits : goal.returns-clause-waits
returns-clause-waits g c =
    let line : bytes_of c.in-Some.line ≡ wait_words c.args.wish.now.span.now c.args.wish.now.want.now c.in_ok-turns.turns (joined (λ (name : Bor (List ℕ)). name.now) c.args.wish.now.names.items) =
    subst (λ it. IfSome it (λ line. bytes_of line ≡ wait_words c.args.wish.now.span.now c.args.wish.now.want.now c.in_ok-turns.turns (joined (λ (name : Bor (List ℕ)). name.now) c.as_slice-names.result.now))) c.in-Some.is c.in_ok-line.ensures.line
    ∙ ap (λ n. wait_words c.args.wish.now.span.now c.args.wish.now.want.now c.in_ok-turns.turns (joined (λ (name : Bor (List ℕ)). name.now) n)) c.as_slice-names.ensures.value in
    let fits : AreOneWait (list_all (λ (name : Bor (List ℕ)). is_name name.now) c.args.wish.now.names.items) (length c.args.wish.now.names.items) (length (bytes_of c.in-Some.line)) =
    subst (λ n. AreOneWait (list_all (λ (name : Bor (List ℕ)). is_name name.now) n) (length n) (length (bytes_of c.in-Some.line))) c.as_slice-names.ensures.value c.in_ok-check_names.ensures in (
      Ok c.in_ok-limit.limit,
      c.in_ok-limit.ensures,
      waits_so (dialing g.D.Dial.reaches g.D.Receiver.Read.remaining g.D.Sender.Write.contents) (wishing c.args.socket.now c.args.wish.now) c.in_ok-limit.limit c.in_ok-turns.turns c.args.dialer.now c.wait_on.new.dialer
          (c.wait_on.new.output ≡ c.args.output.now) (g.W.Write.contents c.args.output.now) (g.W.Write.contents c.wait_on.new.output) _ c.wait_on.result c.in_ok-turns.ensures
          (subst (λ l. AreOneWait (list_all (λ (name : Bor (List ℕ)). is_name name.now) c.args.wish.now.names.items) (length c.args.wish.now.names.items) (length l)) line fits)
          c.wait_on.ensures.goes,
    )

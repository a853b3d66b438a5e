use Rattle.std.proofs.Common.{◌≡◌, ◌≤◌, ℕ, List, length, Bor, Vec, Global, IfSome, IfNone, true, ◌∙◌, refl, ap, subst, arith}
use Rattle.hub_ask.specs.Lines.{bytes_of, joined}
use Rattle.hub_ask.specs.Waiting.{AsksAbout, wait_words}
use Rattle.hub_client.specs.Passing.{has_lf}
use Rattle.hub_dialing.specs.Dialing.{dialing}
use Rattle.hub_commands.specs.Waiting.{EndsTry, wishing}
use Rattle.hub_commands.proofs.Waits.{at_first, ends_by_try, ends_without_memory, not_cut, one_more_try}
use Rattle.hub_commands.proofs.waiting.wait_on.Goals as goal

pub tries-init : goal.tries-init
tries-init g c = record {
  at = at_first (dialing g.D.Dial.reaches g.D.Receiver.Read.remaining g.D.Sender.Write.contents) (wishing c.args.socket.now c.args.wish.now) c.args.first c.args.dialer.now;
  few = c.requires.few;
  output = refl;
  quiet = λ q. (c.new-sayings.ensures.0 ∙ q, c.new-sayings.ensures.1 ∙ q, refl);
}

pub unreachable-requires : goal.unreachable-requires
unreachable-requires g c =
    not_cut c.args.wish.now.span.now c.args.wish.now.want.now (joined (λ (name : Bor (List ℕ)). name.now) c.as_slice-names.result.now) (joined (λ (name : Bor (List ℕ)). name.now) c.args.wish.now.names.items) c.args.first c.tries.turns c.requires.few c.tries.invariant.few c.requires.cut
    (ap (λ n. joined (λ (name : Bor (List ℕ)). name.now) n) c.as_slice-names.ensures.value)
    (subst (λ it. IfNone it (has_lf (wait_words c.args.wish.now.span.now c.args.wish.now.want.now c.tries.turns (joined (λ (name : Bor (List ℕ)). name.now) c.as_slice-names.result.now)) ≡ true)) c.in_default.is c.in_ok-line.ensures.none)

pub returns-in_default-next_try-clause-goes : goal.returns-in_default-next_try-clause-goes
returns-in_default-next_try-clause-goes g c =
    let same : bytes_of c.in-Some-2.line ≡ wait_words c.args.wish.now.span.now c.args.wish.now.want.now c.tries.turns (joined (λ (name : Bor (List ℕ)). name.now) c.args.wish.now.names.items) =
    subst (λ it. IfSome it (λ line. bytes_of line ≡ wait_words c.args.wish.now.span.now c.args.wish.now.want.now c.tries.turns (joined (λ (name : Bor (List ℕ)). name.now) c.as_slice-names.result.now))) c.in-Some-2.is c.in_ok-line.ensures.line
    ∙ ap (λ n. wait_words c.args.wish.now.span.now c.args.wish.now.want.now c.tries.turns (joined (λ (name : Bor (List ℕ)). name.now) n)) c.as_slice-names.ensures.value in
    ends_by_try (dialing g.D.Dial.reaches g.D.Receiver.Read.remaining g.D.Sender.Write.contents) (wishing c.args.socket.now c.args.wish.now) c.args.first c.args.dialer.now c.tries.dialer c.try_once-tried.new.dialer c.tries.turns (bytes_of c.in-Some-2.line) (λ (reply : Vec ℕ Global). reply.items)
    (c.end.new.output ≡ c.args.output.now) (g.W.Write.contents c.args.output.now) (g.W.Write.contents c.end.new.output) c.try_once-tried.result c.end.result
    c.tries.invariant.at same c.in-Some-2.line.cut c.try_once-tried.ensures
    (subst (λ o. EndsTry g.D.Receiver.Read.remaining g.D.Sender.Write.contents (length c.args.wish.now.names.items) c.args.wish.now.is_quiet (AsksAbout c.args.wish.now.want.now (λ (name : Bor (List ℕ)). name.now) c.args.wish.now.names.items)
    (c.end.new.output ≡ o) (g.W.Write.contents o) (g.W.Write.contents c.end.new.output) (λ (reply : Vec ℕ Global). reply.items) c.try_once-tried.result c.end.result) c.tries.invariant.output c.end.ensures.ended)

pub returns-in_err-say-clause-goes : goal.returns-in_err-say-clause-goes
returns-in_err-say-clause-goes g c =
    let same : bytes_of c.in-Some-2.line ≡ wait_words c.args.wish.now.span.now c.args.wish.now.want.now c.tries.turns (joined (λ (name : Bor (List ℕ)). name.now) c.args.wish.now.names.items) =
    subst (λ it. IfSome it (λ line. bytes_of line ≡ wait_words c.args.wish.now.span.now c.args.wish.now.want.now c.tries.turns (joined (λ (name : Bor (List ℕ)). name.now) c.as_slice-names.result.now))) c.in-Some-2.is c.in_ok-line.ensures.line
    ∙ ap (λ n. wait_words c.args.wish.now.span.now c.args.wish.now.want.now c.tries.turns (joined (λ (name : Bor (List ℕ)). name.now) n)) c.as_slice-names.ensures.value in
    ends_without_memory (dialing g.D.Dial.reaches g.D.Receiver.Read.remaining g.D.Sender.Write.contents) (wishing c.args.socket.now c.args.wish.now) c.args.first c.args.dialer.now c.try_once-tried.new.dialer c.tries.turns
    (c.tries.output ≡ c.args.output.now) (g.W.Write.contents c.args.output.now) (g.W.Write.contents c.tries.output) c.from_residual-in_err-say.result
    (one_more_try (dialing g.D.Dial.reaches g.D.Receiver.Read.remaining g.D.Sender.Write.contents) (wishing c.args.socket.now c.args.wish.now) c.args.first c.args.dialer.now c.tries.dialer c.try_once-tried.new.dialer c.tries.turns c.tries.turns (bytes_of c.in-Some-2.line) (λ (reply : Vec ℕ Global). reply.items) c.try_once-tried.result c.say.new.tried
    c.tries.invariant.at same c.try_once-tried.ensures c.in-Some-next_try.ensures c.say.ensures.asked (omega arith))
    c.from_residual-in_err-say.ensures.1 c.tries.invariant.output

pub tries-preserved : goal.tries-preserved
tries-preserved g c =
    let same : bytes_of c.in-Some-2.line ≡ wait_words c.args.wish.now.span.now c.args.wish.now.want.now c.tries.turns (joined (λ (name : Bor (List ℕ)). name.now) c.args.wish.now.names.items) =
    subst (λ it. IfSome it (λ line. bytes_of line ≡ wait_words c.args.wish.now.span.now c.args.wish.now.want.now c.tries.turns (joined (λ (name : Bor (List ℕ)). name.now) c.as_slice-names.result.now))) c.in-Some-2.is c.in_ok-line.ensures.line
    ∙ ap (λ n. wait_words c.args.wish.now.span.now c.args.wish.now.want.now c.tries.turns (joined (λ (name : Bor (List ℕ)). name.now) n)) c.as_slice-names.ensures.value in
    record {
      at = (one_more_try (dialing g.D.Dial.reaches g.D.Receiver.Read.remaining g.D.Sender.Write.contents) (wishing c.args.socket.now c.args.wish.now) c.args.first c.args.dialer.now c.tries.dialer c.try_once-tried.new.dialer c.tries.turns c.next_turns-turns.result (bytes_of c.in-Some-2.line) (λ (reply : Vec ℕ Global). reply.items) c.try_once-tried.result c.say.new.tried
          c.tries.invariant.at same c.try_once-tried.ensures c.in-Some-next_try.ensures c.say.ensures.asked c.next_turns-turns.ensures);
      few = (let few = c.tries.invariant.few in omega (arith, few, c.next_turns-turns.ensures));
      output = c.tries.invariant.output;
      quiet = λ q. (
        c.in_ok-say.ensures.said.0 (c.tries.invariant.quiet q).0,
        c.in_ok-say.ensures.said.1 (c.tries.invariant.quiet q).1,
        c.in_ok-say.ensures.quiet (c.tries.invariant.quiet q).0 (c.tries.invariant.quiet q).1 ∙ (c.tries.invariant.quiet q).2,
      );
    }

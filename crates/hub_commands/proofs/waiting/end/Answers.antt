use Rattle.std.proofs.Common.{◌≡◌, ap, ℕ, List, length, Bor, Vec, Global, Ok, Some, subst}
use Rattle.hub_ask.specs.Outcomes.{TellsOfWait}
use Rattle.hub_ask.specs.Waiting.{AsksAbout}
use Rattle.hub_commands.proofs.Waits.{ends_aloud, ends_quietly}
use Rattle.hub_commands.proofs.waiting.end.Goals as goal

pub returns-then-wish-clause-ended : goal.returns-then-wish-clause-ended
returns-then-wish-clause-ended g c =
    let told : TellsOfWait (length c.as_slice-names.result.now) c.deref.result.now (Some c.in_ok-outcome.outcome) = subst (λ it. TellsOfWait (length c.as_slice-names.result.now) c.deref.result.now it) c.in_ok-outcome.ensures.ok_part c.of_wait.ensures in
    ends_quietly g.SR.Read.remaining g.SW.Write.contents (length c.args.wish.now.names.items) c.args.wish.now.is_quiet (AsksAbout c.args.wish.now.want.now (λ (name : Bor (List ℕ)). name.now) c.args.wish.now.names.items) (c.args.output.now ≡ c.args.output.now) (g.W.Write.contents c.args.output.now) (λ (reply : Vec ℕ Global). reply.items)
    c.args.tried _ c.deref.result.now c.status.result c.in_ok-outcome.outcome c.in-Ok.is (cc) c.if-wish.true c.status.ensures (subst (λ n. TellsOfWait n c.deref.result.now (Some c.in_ok-outcome.outcome)) (ap length c.as_slice-names.ensures.value) told)

pub returns-clause-ended : goal.returns-clause-ended
returns-clause-ended g c =
    ends_aloud g.SR.Read.remaining g.SW.Write.contents c.args.wish.now.is_quiet c.args.wish.now.want.now (λ (name : Bor (List ℕ)). name.now) c.as_slice-names.result.now c.args.wish.now.names.items
    (c.end_wait.new.output ≡ c.args.output.now) (g.W.Write.contents c.args.output.now) (g.W.Write.contents c.end_wait.new.output) (λ (reply : Vec ℕ Global). reply.items)
    c.args.tried _ c.in-Ok.both.0 c.end_wait.new.client c.deref-2.result.now c.status-2.result c.in_ok-outcome-2.outcome
    c.in-Ok.is (cc) (cc) c.as_slice-names.ensures.value c.if-wish.false c.status-2.ensures c.in_ok-outcome-2.ensures.ok

use Rattle.std.proofs.Common.{◌≡◌, inl, refl}
use Rattle.hub_dialing.specs.Calls.{calling}
use Rattle.hub_running.proofs.Planned.{same_plan, same_words}
use Rattle.hub_running.proofs.running.carry_out.Goals as goal

pub returns-in_ok-serve-in-Serve : goal.returns-in_ok-serve-in-Serve
returns-in_ok-serve-in-Serve g c =
    same_plan _ (calling g.D.Dial.connects g.D.Incoming.Read.remaining g.D.Incoming.Source.reads g.D.Incoming.Source.faults g.D.Outgoing.Write.contents g.D.Outgoing.Sink.faults) _ _ (record { contents = g.F.Write.contents; faults = g.F.Sink.faults }) _ _ _ _ _ c.in-Serve.is (inl (c.in_ok-serve-in-Serve.field-0, c.judge.ensures), refl)

pub returns-in-Ask : goal.returns-in-Ask
returns-in-Ask g c =
    same_plan _ (calling g.D.Dial.connects g.D.Incoming.Read.remaining g.D.Incoming.Source.reads g.D.Incoming.Source.faults g.D.Outgoing.Write.contents g.D.Outgoing.Sink.faults) _ _ (record { contents = g.F.Write.contents; faults = g.F.Sink.faults }) _ _ _ _ _ c.in-Ask.is (same_words (λ word. word.now) _ _ _ _ _ _ (record { contents = g.F.Write.contents; faults = g.F.Sink.faults }) _ _ (c.ask_words.new.output ≡ c.args.output.now) _ _ _ c.deref.ensures.value c.ask_words.ensures, refl)

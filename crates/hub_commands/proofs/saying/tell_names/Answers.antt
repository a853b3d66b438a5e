use Rattle.std.proofs.Common.{◌∙◌, subst}
use Rattle.hub_ask.specs.Streams.{IsToldTo}
use Rattle.hub_commands.proofs.saying.tell_names.Goals as goal

pub returns-clause-ok : goal.returns-clause-ok
returns-clause-ok g c =
    subst (λ it. IsToldTo (g.F.Write.contents c.args.notes.now) (g.F.Write.contents c.write_note.new.notes) (g.F.Sink.faults c.args.notes.now) (g.F.Sink.faults c.write_note.new.notes) it)
    (c.deref.ensures.value ∙ c.in_ok-line.ensures) c.write_note.ensures

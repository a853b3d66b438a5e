use Rattle.std.proofs.Common.{ℕ, List, Bor, true, refl}
use Rattle.hub_commands.proofs.Listed.{asked_so, names_said, none_asked}
use Rattle.hub_commands.proofs.saying.Sayings.say_names.Goals as goal

pub returns-then-not-is_due-clause-asked : goal.returns-then-not-is_due-clause-asked
returns-then-not-is_due-clause-asked g c =
    asked_so (g.SW.Write.contents c.args.client.now.sender) (g.SW.Write.contents c.args.client.now.sender) (none_asked (g.SW.Write.contents c.args.client.now.sender) (g.SW.Write.contents c.args.client.now.sender) refl)

pub returns-clause-told : goal.returns-clause-told
returns-clause-told g c =
    names_said (λ (name : Bor (List ℕ)). name.now) c.args.self.now
    (record { hub = c.args.self.now.hub; names = record { is_said = true; quiet = c.is_due.new.self.quiet } }) g.F.Write.contents g.F.Sink.faults c.args.notes.now c.tell_names.new.notes
    c.deref-2.result.now c.in_ok-missing.missing.items c.deref-3.result.now c.deref.result.now c.in-Ok.there.items c.tell_names.result
    c.deref-2.ensures.value c.deref-3.ensures.value c.deref.ensures.value c.in_ok-missing.ensures (c.if-not-is_due.ensures.due refl) refl
    c.tell_names.ensures.ok c.tell_names.ensures.err

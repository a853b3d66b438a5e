use Rattle.std.proofs.Common.{◌∙◌, refl, sym}
use Rattle.hub_commands.proofs.Compared.{judged_unlike}
use Rattle.hub_commands.proofs.making.judge.Goals as goal

pub returns-then-is_alike-clause-ok : goal.returns-then-is_alike-clause-ok
returns-then-is_alike-clause-ok g c = (sym c.is_alike.ensures ∙ c.if-is_alike.true, refl, refl)

pub returns-clause-ok : goal.returns-clause-ok
returns-clause-ok g c =
    judged_unlike _ _ _ _ c.args.name.now c.bytes.result.now c.in_ok-text.text.items c.deref.result.now c.args.there c.args.wanted
    (sym c.is_alike.ensures ∙ c.if-is_alike.false) c.bytes.ensures c.deref.ensures.value c.in_ok-text.ensures c.in_ok-note.ensures.ok

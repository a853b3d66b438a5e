use Rattle.std.proofs.Common.{Ok, sym, subst}
use Rattle.hub_commands.specs.Waiting.{AsksAfterTry}
use Rattle.hub_commands.proofs.Listed.{asks_nothing}
use Rattle.hub_commands.proofs.waiting.say.Goals.{in-Hub-default, in-Names-Ok, in_default, in_default-2}
use Rattle.hub_commands.proofs.waiting.say.Goals as goal

pub returns-clause-asked : goal.returns-clause-asked
returns-clause-asked g c = elim c.match-delay.branch [
  | in-Hub-default w ↦ subst (AsksAfterTry g.SW.Write.contents c.args.tried.now) (sym w.tried-is) (asks_nothing g.SW.Write.contents c.args.tried.now)
  | in-Names-Ok w ↦ subst (λ t. AsksAfterTry g.SW.Write.contents t c.match-delay.tried) (sym w.in-Names-Ok.is-1) (subst (AsksAfterTry g.SW.Write.contents (Ok (w.in-Names-Ok.client, w.in-Names-Ok.field-0-1-1))) (sym w.tried-is) w.say_names.ensures.asked)
  | in_default w ↦ subst (AsksAfterTry g.SW.Write.contents c.args.tried.now) (sym w.tried-is) (asks_nothing g.SW.Write.contents c.args.tried.now)
  | in_default-2 w ↦ subst (AsksAfterTry g.SW.Write.contents c.args.tried.now) (sym w.tried-is) (asks_nothing g.SW.Write.contents c.args.tried.now)
]

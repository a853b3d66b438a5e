use Rattle.std.proofs.Common.{sym, ◌∙◌, subst}
use Rattle.hub_record.specs.Kept.{Represents}
use Rattle.hub_record.proofs.RepresentsWorlds.{load_is}
use Rattle.hub_record.proofs.record.Record.load.Goals as goal

pub returns : goal.returns
returns c = λ w s. c.load.ensures ∙ load_is _ w _ (subst (λ r. Represents r w) (sym c.self.view_is) s) c.self.invariant.room

use Rattle.std.proofs.Common.{sym, ◌∙◌, subst}
use Rattle.hub_record.specs.Kept.{Represents}
use Rattle.hub_record.proofs.RepresentsWorlds.{evicted_is_cursors}
use Rattle.hub_record.proofs.record.Record.evicted.Goals as goal

pub returns : goal.returns
returns c = λ w s. c.slow.ensures ∙ evicted_is_cursors _ w _ (subst (λ r. Represents r w) (sym c.self.view_is) s) c.self.invariant.room

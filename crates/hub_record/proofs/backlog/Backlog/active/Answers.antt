use Rattle.std.proofs.Common.{length, ap, ◌∙◌}
use Rattle.hub_record.specs.Backlog.{Held, active_in}
use Rattle.hub_record.proofs.Keeps.{active_counted}
use Rattle.hub_record.proofs.backlog.Backlog.active.Goals as goal

pub returns : goal.returns
returns c = c.count_from.ensures ∙ active_counted _ _ _ _ _ _ c.self.invariant ∙ ap (λ (h : Held). length (active_in h.room h.end h.cursors)) c.self.view_is

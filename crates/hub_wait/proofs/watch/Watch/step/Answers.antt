use Rattle.hub_wait.proofs.Steps.{stepped_past}
use Rattle.hub_wait.proofs.watch.Watch.step.Goals as goal

pub returns-then-told-letters : goal.returns-then-told-letters
returns-then-told-letters c = stepped_past _ _ _ _ _ _ c.self.view_is c.requires.overlaps c.if-told-letters.true c.after_all-self-inside.ensures c.any_falls.ensures

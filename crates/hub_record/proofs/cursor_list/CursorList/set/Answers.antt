use Rattle.hub_record.proofs.Rising.{set-moved, rising-moved}
use Rattle.hub_record.proofs.cursor_list.CursorList.set.Goals as goal

pub invariant_of-self : goal.invariant_of-self
invariant_of-self c = rising-moved _ _ _ _ _ c.self.view_is c.self.invariant c.requires c.index.ensures

pub returns : goal.returns
returns c = set-moved _ _ _ _ _ c.self.view_is c.self.invariant c.requires c.index.ensures

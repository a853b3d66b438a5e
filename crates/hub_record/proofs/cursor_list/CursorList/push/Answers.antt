use Rattle.std.proofs.Common.{All, ◌<◌, is_ok, sym, subst}
use Rattle.std.specs.Map.{keys_of}
use Rattle.hub_record.proofs.Rising.{rising-push_if}
use Rattle.hub_record.proofs.cursor_list.CursorList.push.Goals as goal

pub invariant_of-self : goal.invariant_of-self
invariant_of-self c = rising-push_if (is_ok c.push.result) _ _ c.args.id c.args.next c.self.invariant (subst (λ cs. All (λ k. k < c.args.id) (keys_of cs)) (sym c.self.view_is) c.requires) c.push.ensures.items

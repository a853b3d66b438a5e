use Rattle.std.proofs.Common.{sym, ◌∙◌}
use Rattle.hub_look.proofs.Headings.{headings_none, headings_some}
use Rattle.hub_look.proofs.table.put_headings.Goals as goal

pub returns-then-is_empty : goal.returns-then-is_empty
returns-then-is_empty c = headings_none (λ name. name.now) c.args.names.now _ _ c.push_str.result (sym c.is_empty.ensures ∙ c.if-is_empty.true) c.push_str.ensures.bytes

pub returns-else-is_empty : goal.returns-else-is_empty
returns-else-is_empty c = headings_some (λ name. name.now) c.args.names.now c.width_of.result _ _ c.put_row.result (sym c.is_empty.ensures ∙ c.if-is_empty.false) c.width_of.ensures c.put_row.ensures

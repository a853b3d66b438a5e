use Rattle.std.proofs.Common.{◌∙◌}
use Rattle.hub_views.proofs.Columns.{all_columns, of_word}
use Rattle.hub_views.proofs.rows.put_columns.Goals as goal

pub returns : goal.returns
returns c =
    all_columns c.args.it _ _ _ _ _ _ _ _ c.push_str.result
    (of_word _ _ 7 _ _ c.kind_word.ensures c.in_ok-put_column.ensures) (of_word _ _ 15 _ _ (c.as_str.ensures.value ∙ c.in_ok-state_column.ensures) c.in_ok-put_column-2.ensures)
    c.in_ok-put_number_column.ensures c.in_ok-put_number_column-2.ensures
    (of_word _ _ 12 _ _ (c.as_str-2.ensures.value ∙ c.in_ok-pending_column.ensures) c.in_ok-put_column-3.ensures) c.policy_word.ensures c.push_str.ensures.bytes

use Rattle.hub_views.specs.Descriptions.{columns_of}
use Rattle.hub_views.proofs.Columns.{whole_row}
use Rattle.hub_views.proofs.rows.put_described.Goals as goal

pub returns : goal.returns
returns c = whole_row c.args.width c.args.name.now (columns_of c.args.it) _ _ _ _ c.push_str.result c.in_ok-put_column.ensures c.in_ok-put_columns.ensures c.push_str.ensures.bytes

use Rattle.std.proofs.Common.{rules, nat_lt}
use Rattle.std.proofs.lemmas.List.Sorted.{IsPartitionPoint-from_clause}
use Rattle.hub_record.proofs.Rising.{parted}
use Rattle.hub_record.proofs.cursor_list.search.Goals as goal

pub returns : goal.returns
returns c = IsPartitionPoint-from_clause (λ p. nat_lt p.0 c.args.id) _ _ c.partition_point.ensures.partitioned (parted _ c.args.id c.requires) (λ a r q k. search rules)

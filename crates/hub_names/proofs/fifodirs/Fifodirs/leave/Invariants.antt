use Rattle.indexmap.specs.IndexMap.{index_map_len}
use Rattle.hub_names.proofs.fifodirs.Fifodirs.leave.Given as goal

abbrev pub decreases-loop-joined : goal.decreases-loop-joined
decreases-loop-joined g l = index_map_len l.left

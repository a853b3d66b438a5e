use Rattle.indexmap.specs.IndexMap.{index_map_len}
use Rattle.hub_handles.proofs.handles.cancel_listeners.Given as goal

abbrev pub decreases-loop-hearing : goal.decreases-loop-hearing
decreases-loop-hearing g l = index_map_len l.listeners

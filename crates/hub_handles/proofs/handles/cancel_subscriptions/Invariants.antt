use Rattle.indexmap.specs.IndexMap.{index_map_len}
use Rattle.hub_handles.proofs.handles.cancel_subscriptions.Given as goal

abbrev pub decreases-loop-subscription : goal.decreases-loop-subscription
decreases-loop-subscription g l = index_map_len l.subscriptions

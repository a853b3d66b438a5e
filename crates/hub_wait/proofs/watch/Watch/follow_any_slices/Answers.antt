use Rattle.hub_wait.proofs.Steps.{begin_at_any_status, follow_any_slices}
use Rattle.hub_wait.proofs.watch.Watch.follow_any_slices.Goals as goal

pub returns-clause-begin : goal.returns-clause-begin
returns-clause-begin c = begin_at_any_status

pub returns-clause-follow : goal.returns-clause-follow
returns-clause-follow c = follow_any_slices

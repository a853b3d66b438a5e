use Rattle.hub_local.proofs.AwaitLaws.{awaits_tell_takes, awaits_tell_polls}
use Rattle.hub_local.proofs.local_desk.LocalDesk.awaits_tell_what_comes.Goals as goal

pub returns-clause-takes : goal.returns-clause-takes
returns-clause-takes c = awaits_tell_takes

pub returns-clause-polls : goal.returns-clause-polls
returns-clause-polls c = awaits_tell_polls

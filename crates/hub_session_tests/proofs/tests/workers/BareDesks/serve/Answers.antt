use Rattle.hub_serving.proofs.Results.{no_desk}
use Rattle.hub_session_tests.proofs.tests.workers.BareDesks.serve.Goals as goal

pub returns : goal.returns
returns g c = no_desk _ _ _ _ _ _ _ _

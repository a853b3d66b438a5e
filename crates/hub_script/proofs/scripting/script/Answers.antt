use Rattle.std.proofs.lemmas.Result.{IfOk-weaker, IfErr-weaker}
use Rattle.hub_script.proofs.Replies.{session_serves, session_stops, no_session_stops}
use Rattle.hub_script.proofs.scripting.script.Goals as goal

pub returns-clause-output : goal.returns-clause-output
returns-clause-output g c = IfOk-weaker c.serve.result _ _ (λ n. session_serves _ c.serve.new.desk _ _ _ _ n c.in-Ok.ensures) c.serve.ensures.finished

pub returns-clause-stopped : goal.returns-clause-stopped
returns-clause-stopped g c = IfErr-weaker c.serve.result _ _ (λ e. session_stops _ c.serve.new.desk _ _ _ _ e c.in-Ok.ensures) c.serve.ensures.stopped

pub returns-in_default-clause-stopped : goal.returns-in_default-clause-stopped
returns-in_default-clause-stopped g c = no_session_stops _ _

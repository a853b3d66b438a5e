use Rattle.hub_ask.proofs.Sent.{fails_at_once}
use Rattle.hub_ask.proofs.client.Client.hear.Goals as goal

pub returns-in_err-line-clause-err : goal.returns-in_err-line-clause-err
returns-in_err-line-clause-err g c = fails_at_once _ _ _ _ _ c.from_residual.ensures.1

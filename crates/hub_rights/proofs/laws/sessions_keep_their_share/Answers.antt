use Rattle.hub_rights.proofs.Shares as law
use Rattle.hub_rights.proofs.laws.sessions_keep_their_share.Goals as goal

pub returns : goal.returns
returns g c = law.makes_its_share g.D.Desk.asks

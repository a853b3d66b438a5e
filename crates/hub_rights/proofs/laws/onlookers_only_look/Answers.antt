use Rattle.hub_rights.proofs.Looks as law
use Rattle.hub_rights.proofs.laws.onlookers_only_look.Goals as goal

pub returns : goal.returns
returns g c = law.looks_alone g.D.Desk.asks

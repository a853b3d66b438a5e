use Rattle.hub_front.proofs.Placed.{run_in_place}
use Rattle.hub_front.proofs.places.refusals_are_in_place.Goals as goal

pub returns : goal.returns
returns g c = λ old new lines replies run. run_in_place g.D.Desk.asks old new lines replies run

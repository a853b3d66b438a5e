use Rattle.std.proofs.Common.{◌≡◌, Option, Some, refl, subst}
use Rattle.std.specs.Arc.{arc_value}
use Rattle.hub_fifodir.specs.declared.publisher.Publisher.{Publisher}
use Rattle.hub_names.specs.Says.{says_status}
use Rattle.hub_names.specs.Speaking.{IsSpeaker}
use Rattle.hub_names.proofs.Speakers.{spoke, told}
use Rattle.hub_names.proofs.joined.Joined.status.Goals as goal

pub returns-clause-step : goal.returns-clause-step
returns-clause-step c =
    let own = c.status-status.ensures in
    let p = c.in-Some.publisher in
    let q = c.status-status.new.me in
    let kept : Some p ≡ c.args.self.now.publisher = cc in
    let speaker = subst (λ (o : Option Publisher). IsSpeaker (arc_value c.args.self.now.found.dir) o p) kept refl in
    spoke says_status _ _ _ _ p q speaker c.keep.ensures.found c.keep.ensures.kept own.remains (told p q c.status-status.result own.looks own.status)

use Rattle.std.proofs.Common.{◌∙◌}
use Rattle.hub_names.specs.Says.{says_status}
use Rattle.hub_names.proofs.Speakers.{spoke, told}
use Rattle.hub_names.proofs.joined.Joined.first_status.Goals as goal

pub returns : goal.returns
returns g c =
    let own = c.status-status.ensures in
    let p = c.in-Ok.publisher in
    let q = c.status-status.new.me in
    spoke says_status _ _ _ _ p q c.in-Ok.ensures.ok (c.keep.ensures.found ∙ c.in-Ok.ensures.found) c.keep.ensures.kept own.remains
    (told p q c.status-status.result own.looks own.status)

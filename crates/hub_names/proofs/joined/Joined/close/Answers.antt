use Rattle.std.proofs.Common.{refl, ◌∙◌}
use Rattle.hub_names.specs.Says.{says_closed}
use Rattle.hub_names.proofs.Speakers.{spoke}
use Rattle.hub_names.proofs.joined.Joined.close.Goals as goal

pub returns-in-Ok-closed : goal.returns-in-Ok-closed
returns-in-Ok-closed g c =
    let own = c.in-Ok-closed.ensures in
    spoke says_closed _ _ _ _ c.in-Ok.publisher c.close-closed.new.me c.in-Ok.ensures.ok (c.keep.ensures.found ∙ c.in-Ok.ensures.found) c.keep.ensures.kept own.remains
    (own.ok.0, own.ok.1, own.mine)

pub returns-in-Err-closed : goal.returns-in-Err-closed
returns-in-Err-closed g c =
    let own = c.in-Err-closed.ensures in
    spoke says_closed _ _ _ _ c.in-Ok.publisher c.close-closed.new.me c.in-Ok.ensures.ok (c.keep.ensures.found ∙ c.in-Ok.ensures.found) c.keep.ensures.kept own.remains
    (refl, own.err.0, own.err.1, own.mine)

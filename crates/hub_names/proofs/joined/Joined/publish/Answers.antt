use Rattle.std.proofs.Common.{ℕ, List, sym, subst, ◌∙◌}
use Rattle.hub_requests.specs.Refusals.{reply_to_publish}
use Rattle.hub_requests.specs.declared.reply.Reply.{Reply}
use Rattle.hub_names.specs.Says.{says_published}
use Rattle.hub_names.proofs.Speakers.{spoke, says_so}
use Rattle.hub_names.proofs.joined.Joined.publish.Goals as goal

pub returns : goal.returns
returns g c =
    let own = c.publish-published.ensures in
    let p = c.in-Ok.publisher in
    let q = c.publish-published.new.me in
    let said = says_so p q c.items.result.now c.publish-published.result own.ok own.refused own.err own.own in
    let of_letters = subst (λ (m : List ℕ). says_published m p (reply_to_publish c.publish-published.result) q) c.items.ensures said in
    spoke (says_published c.args.letters.now) _ _ _ _ p q c.in-Ok.ensures.ok (c.keep.ensures.found ∙ c.in-Ok.ensures.found) c.keep.ensures.kept own.remains
    (subst (λ (r : Reply). says_published c.args.letters.now p r q) (sym c.to_publish.ensures) of_letters)

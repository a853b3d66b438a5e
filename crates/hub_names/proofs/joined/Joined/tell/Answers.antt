use Rattle.std.proofs.Common.{inl, sym, ap, subst, ◌∙◌}
use Rattle.hub_fifodir.specs.Passes.{kind_of}
use Rattle.hub_requests.specs.declared.reply.Reply.{Reply}
use Rattle.hub_names.specs.Says.{says_told}
use Rattle.hub_names.proofs.Speakers.{spoke, tells_so}
use Rattle.hub_names.proofs.joined.Joined.tell.Goals as goal

pub returns : goal.returns
returns g c =
    let own = c.tell-told.ensures in
    let p = c.in-Ok.publisher in
    let q = c.tell-told.new.me in
    let said = tells_so p q c.args.state c.tell-told.result own.ok own.there own.refused own.err own.own in
    inl (
      ap kind_of (sym c.deref.ensures) ∙ sym c.kind.ensures ∙ c.in-Service.is,
      spoke (says_told c.args.state) _ _ _ _ p q c.in-Ok.ensures.ok (c.keep.ensures.found ∙ c.in-Ok.ensures.found) c.keep.ensures.kept own.remains
          (subst (λ (r : Reply). says_told c.args.state p r q) (sym c.to_publish.ensures) said),
    )

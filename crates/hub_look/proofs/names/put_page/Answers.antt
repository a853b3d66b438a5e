use Rattle.std.proofs.Common.{◌∙◌, sym}
use Rattle.std.proofs.lemmas.List.{length-map}
use Rattle.hub_look.proofs.Listed.{page_put}
use Rattle.hub_look.proofs.names.put_page.Goals as goal

pub returns-clause-ok : goal.returns-clause-ok
returns-clause-ok g c =
    page_put _ _ _ _ c.len-from.result _ _ c.put_listed.result (c.len-from.ensures ∙ c.args.names.now.ok.0 ∙ sym (length-map c.args.names.now.items (λ name. name.bytes.items))) c.in_ok-heard.ensures.ok c.reply.ensures c.put_listed.ensures.ok

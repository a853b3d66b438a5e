use Rattle.std.proofs.Common.{◌∙◌}
use Rattle.hub_look.specs.Stops.{IsOwnStop}
use Rattle.hub_look.proofs.Judged.{stops_so}
use Rattle.hub_look.proofs.Listed.{all_pages, one_page_more}
use Rattle.hub_look.proofs.names.all_names.Goals as goal

pub returns-then-branch-clause-ok : goal.returns-then-branch-clause-ok
returns-then-branch-clause-ok g c =
    all_pages _ _ _ _ _ c.in_ok-put_page.field-0 c.replies.invariant.so_far c.in_ok-put_page.ensures.ok c.if-branch.true

pub replies-preserved : goal.replies-preserved
replies-preserved g c = record {
  begun = c.in_ok-put_page.ensures.begun ∙ c.replies.invariant.begun;
  so_far = one_page_more _ _ _ _ _ c.in_ok-put_page.field-0 c.replies.invariant.so_far c.in_ok-put_page.ensures.ok c.if-branch.false;
}

pub returns-in_err-put_page-clause-err : goal.returns-in_err-put_page-clause-err
returns-in_err-put_page-clause-err g c = stops_so IsOwnStop _ c.in_err-put_page.field-0.0 c.from_residual.ensures.1 c.in_err-put_page.ensures.err

pub returns-in_err-put_page-clause-begun : goal.returns-in_err-put_page-clause-begun
returns-in_err-put_page-clause-begun g c = c.in_err-put_page.ensures.begun ∙ c.replies.invariant.begun

pub returns-then-branch-clause-begun : goal.returns-then-branch-clause-begun
returns-then-branch-clause-begun g c = c.in_ok-put_page.ensures.begun ∙ c.replies.invariant.begun

pub returns-clause-begun : goal.returns-clause-begun
returns-clause-begun g c = c.replies.invariant.begun

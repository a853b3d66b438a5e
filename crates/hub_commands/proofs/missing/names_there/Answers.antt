use Rattle.hub_commands.proofs.Listed.{asked_in_vain, asked_so, one_asked}
use Rattle.hub_commands.proofs.missing.names_there.Goals as goal

pub returns-in_err-heard : goal.returns-in_err-heard
returns-in_err-heard g c = asked_in_vain _ _ _ _ _ c.count_of.result _ c.in_err-heard.field-0.0 c.replies.invariant c.in_err-heard.ensures.err

pub returns-in_err-put_listed : goal.returns-in_err-put_listed
returns-in_err-put_listed g c = asked_so _ _ (one_asked _ _ _ _ _ c.count_of.result c.in_ok-heard.heard c.replies.invariant c.in_ok-heard.ensures.ok)

pub returns-then-branch : goal.returns-then-branch
returns-then-branch g c = asked_so _ _ (one_asked _ _ _ _ _ c.count_of.result c.in_ok-heard.heard c.replies.invariant c.in_ok-heard.ensures.ok)

pub replies-preserved : goal.replies-preserved
replies-preserved g c = one_asked _ _ _ _ _ c.count_of.result c.in_ok-heard.heard c.replies.invariant c.in_ok-heard.ensures.ok

pub returns : goal.returns
returns g c = asked_so _ _ c.replies.invariant

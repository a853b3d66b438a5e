use Rattle.hub_requests.specs.declared.request.Request.TheVariants as request
use Rattle.hub_requests.specs.declared.reply.Reply.TheVariants as reply
use Rattle.hub_protocol.specs.declared.replies.BorrowedReply.TheVariants as shown
use Rattle.hub_look.proofs.Refusals.{looked_up_by}
use Rattle.hub_look.proofs.Looked.{spelled_about, about_shown, told_so}
use Rattle.hub_look.specs.Stops.{IsOwnFault}
use Rattle.hub_look.proofs.Judged.{stops_so}
use Rattle.hub_look.proofs.describing.about_of.Goals as goal

pub returns-clause-ok : goal.returns-clause-ok
returns-clause-ok g c =
    told_so shown.About reply.About about_shown (request.About c.args.name.now) _ _ c.args.name.now c.in_ok-look_up.field-0 c.about_in.result
    (looked_up_by _ _ (request.About c.args.name.now) _ c.args.name.now c.in_ok-look_up.field-0 c.in_ok-look_up.ensures.ok (spelled_about c.args.name.now)) c.about_in.ensures.ok

pub returns-in_err-look_up-clause-err : goal.returns-in_err-look_up-clause-err
returns-in_err-look_up-clause-err g c = stops_so IsOwnFault _ c.in_err-look_up.field-0.0 c.from_residual.ensures.1 c.in_err-look_up.ensures.err

use Rattle.std.proofs.Common.{ℕ, Result, ap, subst, ◌∙◌}
use Rattle.hub_record.specs.World.{after_publish}
use Rattle.hub_record.specs.Kept.{Represents}
use Rattle.hub_record.specs.declared.PubError.{PubError}
use Rattle.hub_requests.specs.Refusals.{reply_to_publish}
use Rattle.hub_local.proofs.RecordReplies.{publish_reply_is}
use Rattle.hub_local.proofs.local_desk.LocalFifodir.publish.Goals as goal

pub returns-clause-reply : goal.returns-clause-reply
returns-clause-reply c = λ w h. c.to_publish.ensures ∙ ap reply_to_publish (publish_reply_is w c.args.letters.now c.publish.result (c.publish.ensures.reply w h))

pub returns-clause-after : goal.returns-clause-after
returns-clause-after c = λ w h.
    subst (λ (r : Result ℕ PubError). Represents c.publish.new.self (after_publish w 1 c.args.letters.now r)) (publish_reply_is w c.args.letters.now c.publish.result (c.publish.ensures.reply w h)) (c.publish.ensures.after w h)

use Rattle.hub_record.proofs.Replies.{same_reply, same_world, same_run}
use Rattle.hub_record.proofs.laws.one_reply.Goals as goal

pub returns-clause-reply : goal.returns-clause-reply
returns-clause-reply c = same_reply

pub returns-clause-after : goal.returns-clause-after
returns-clause-after c = same_world

pub returns-clause-run : goal.returns-clause-run
returns-clause-run c = same_run

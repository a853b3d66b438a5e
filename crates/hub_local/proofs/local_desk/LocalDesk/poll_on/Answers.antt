use Rattle.std.proofs.Common.{subst, false}
use Rattle.hub_local.specs.Representing.{AsksWith}
use Rattle.hub_requests.specs.declared.reply.Reply.{Reply}
use Rattle.hub_requests.specs.declared.request.Request.TheVariants.{Poll}
use Rattle.hub_local.proofs.AskingNexts.{polls_once, polls_twice}
use Rattle.hub_local.proofs.local_desk.LocalDesk.poll_on.Goals as goal

pub returns-in-Nothing : goal.returns-in-Nothing
returns-in-Nothing c =
    polls_twice c.args.self.now c.poll.new.self _ c.args.id _ (subst (λ (r : Reply). AsksWith false c.args.self.now (Poll c.args.id) r c.poll.new.self) c.in-Nothing.is c.poll.ensures) c.poll-in-Nothing.ensures

pub returns-in_default : goal.returns-in_default
returns-in_default c = polls_once c.args.self.now c.poll.new.self c.args.id c.poll.result c.in_default.not-Nothing c.poll.ensures

use Rattle.std.proofs.Common.{sym, ◌∙◌, subst, false}
use Rattle.hub_local.specs.Representing.{AsksWith}
use Rattle.hub_requests.specs.declared.reply.Reply.{Reply}
use Rattle.hub_requests.specs.declared.request.Request.TheVariants.{Next}
use Rattle.hub_local.proofs.AskingNexts.{next_polled, next_taken}
use Rattle.hub_local.proofs.local_desk.LocalDesk.next.Goals as goal

pub returns-then-hears : goal.returns-then-hears
returns-then-hears c = λ turns.
    subst (λ (r : Reply). AsksWith false c.args.self.now (Next c.args.id turns) r c.poll_on.new.self) (sym c.or_late.ensures)
    (next_polled c.args.self.now c.poll_on.new.self c.args.id turns c.poll_on.result (sym c.hears.ensures ∙ c.if-hears.true) c.poll_on.ensures)

pub returns-else-hears : goal.returns-else-hears
returns-else-hears c = λ turns.
    subst (λ (r : Reply). AsksWith false c.args.self.now (Next c.args.id turns) r c.take.new.self) (sym c.or_late-else-hears.ensures)
    (next_taken c.args.self.now c.take.new.self c.args.id turns c.take.result (sym c.hears.ensures ∙ c.if-hears.false) c.take.ensures)

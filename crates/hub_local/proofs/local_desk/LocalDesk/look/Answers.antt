use Rattle.std.proofs.Common.{true, false, refl, sym, ◌∙◌}
use Rattle.hub_requests.specs.declared.reply.Reply.TheVariants.{Done, Late}
use Rattle.hub_local.proofs.Asking.{answers_here}
use Rattle.hub_local.proofs.AskingAwaits.{await_answered}
use Rattle.hub_local.proofs.AskingSubscriptions.{held_somewhere}
use Rattle.hub_local.proofs.local_desk.LocalDesk.look.Goals as goal

pub unreachable-requires : goal.unreachable-requires
unreachable-requires c = held_somewhere _ c.self.invariant.desk c.self.invariant.represents c.args.id c.in-Some.holding.now c.in-Some.ensures.value c.in_default-get.ensures.value

pub returns-then-has_something : goal.returns-then-has_something
returns-then-has_something c = λ turns.
    answers_here c.self.view_is (await_answered _ c.args.id turns c.in-Some.holding.now c.in-Some-get.fifodir.now c.in-Some.ensures.value c.in-Some-get.ensures.value
    true (λ w s st is. sym c.if-has_something.true ∙ c.has_something.ensures w s st is) Done refl)

pub returns-else-has_something : goal.returns-else-has_something
returns-else-has_something c = λ turns.
    answers_here c.self.view_is (await_answered _ c.args.id turns c.in-Some.holding.now c.in-Some-get.fifodir.now c.in-Some.ensures.value c.in-Some-get.ensures.value
    false (λ w s st is. sym c.if-has_something.false ∙ c.has_something.ensures w s st is) Late refl)

use Rattle.std.proofs.Common.{subst, sym, Err, Ok, List, ℕ}
use Rattle.hub_local.specs.Opening.{Begins}
use Rattle.hub_local.specs.declared.local_desk.LocalFifodir.{LocalFifodir}
use Rattle.hub_local.proofs.AskingHolds.{begins_one, begins_refused, none_there}
use Rattle.hub_local.proofs.local_desk.subscriptions.begin.Goals as goal

pub unreachable-requires : goal.unreachable-requires
unreachable-requires c = none_there c.args.name.now _ c.requires.there c.in_default-get_mut.ensures.value

pub returns-in-Ok-subscribe-clause-begins : goal.returns-in-Ok-subscribe-clause-begins
returns-in-Ok-subscribe-clause-begins c = λ model w kept is.
    subst (λ (es : List (List ℕ × LocalFifodir)). Begins c.args.name.now w model (Ok (c.in-Ok.key, c.in-Ok-subscribe.id)) es) (sym (c.get_mut.follows.holds _).0)
    (begins_one c.args.name.now _ c.in-Some.fifodir.now c.subscribe.new.self (sym c.in-Some.ensures.value) model w kept is (c.in-Ok.key, c.in-Ok-subscribe.id) c.in-Ok-subscribe._mark
    c.in-Ok-subscribe.ensures.reply c.in-Ok-subscribe.ensures.after)

pub returns-in-Err-clause-begins : goal.returns-in-Err-clause-begins
returns-in-Err-clause-begins c = λ model w kept is.
    subst (λ (es : List (List ℕ × LocalFifodir)). Begins c.args.name.now w model (Err c.from.result) es) (sym (c.get_mut.follows.holds _).0)
    (begins_refused c.args.name.now _ c.in-Some.fifodir.now c.subscribe.new.self (sym c.in-Some.ensures.value) model w kept is c.in-Err.error c.from.result
    c.in-Err.ensures.reply c.in-Err.ensures.err c.from.ensures)

use Rattle.hub_commands.proofs.Made.{all_made, not_made, one_made}
use Rattle.hub_commands.proofs.making.make_each.Goals as goal

pub names-preserved : goal.names-preserved
names-preserved g c =
    one_made _ _ _ c.args.wanted c.args.names.now c.names.name-index c.name-item.result c.names.outcome c.in_ok-next.next c.outcome_after-outcome.result
    c.name-item.is c.names-test.true c.names.invariant c.in_ok-next.ensures.ok c.outcome_after-outcome.ensures

pub returns-in_err-next-clause-err : goal.returns-in_err-next-clause-err
returns-in_err-next-clause-err g c =
    not_made _ _ _ c.args.wanted c.args.names.now c.names.name-index c.name-item.result c.names.outcome _ c.in_err-next.field-0.0
    c.name-item.is c.names-test.true c.names.invariant c.from_residual.ensures.1 c.in_err-next.ensures.err

pub returns-clause-ok : goal.returns-clause-ok
returns-clause-ok g c = all_made _ _ c.args.wanted c.args.names.now c.names.name-index c.names.outcome c.names-test.false c.names.invariant

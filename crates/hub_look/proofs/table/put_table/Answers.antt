use Rattle.std.proofs.Common.{[], ◌∙◌, refl}
use Rattle.hub_look.specs.Stops.{IsOwnFault}
use Rattle.hub_look.proofs.Judged.{none_so_far, one_more, own_memory, stops_so, whole_table}
use Rattle.hub_look.proofs.table.put_table.Goals as goal

pub returns-in_err-put_finding-clause-err : goal.returns-in_err-put_finding-clause-err
returns-in_err-put_finding-clause-err g c = own_memory _ c.from_residual-in_err-put_finding.ensures.1

pub names-preserved : goal.names-preserved
names-preserved g c = record {
  begun = c.in_ok-finding.ensures.begun ∙ c.names.invariant.begun;
  so_far = one_more (λ name. name.now) c.args.is_json _ _ _ c.args.names.now c.names.name-index (record { ref_ptr = (0, 0); now = [] }) c.width_of-width.result _ _ _ _ _ c.in_ok-finding.finding
      c.names-test.true c.names.invariant.so_far c.in_ok-finding.ensures.ok c.in_ok-put_finding.ensures c.outcome_after-outcome.ensures;
}

pub names-init : goal.names-init
names-init g c = record {
  begun = refl;
  so_far = none_so_far (λ name. name.now) c.args.is_json _ c.width_of-width.result _ _ _ c.in_ok-put_top.ensures refl;
}

pub returns-clause-ok : goal.returns-clause-ok
returns-clause-ok g c =
    whole_table (λ name. name.now) c.args.is_json _ _ c.args.names.now c.names.name-index c.width_of-width.result c.args.table.now.bytes.items _ _ c.names-test.false c.width_of-width.ensures c.names.invariant.so_far

pub returns-in_err-put_top-clause-err : goal.returns-in_err-put_top-clause-err
returns-in_err-put_top-clause-err g c = own_memory _ c.from_residual.ensures.1

pub returns-in_err-finding-clause-err : goal.returns-in_err-finding-clause-err
returns-in_err-finding-clause-err g c = stops_so IsOwnFault _ c.in_err-finding.field-0.0 c.from_residual-in_err-finding.ensures.1 c.in_err-finding.ensures.err

pub returns-in_err-finding-clause-begun : goal.returns-in_err-finding-clause-begun
returns-in_err-finding-clause-begun g c = c.in_err-finding.ensures.begun ∙ c.names.invariant.begun

pub returns-in_err-put_finding-clause-begun : goal.returns-in_err-put_finding-clause-begun
returns-in_err-put_finding-clause-begun g c = c.in_ok-finding.ensures.begun ∙ c.names.invariant.begun

pub returns-clause-begun : goal.returns-clause-begun
returns-clause-begun g c = c.names.invariant.begun

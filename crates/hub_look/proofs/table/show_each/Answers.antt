use Rattle.hub_look.proofs.Judged.{cuts_table, shows_none, shows_table}
use Rattle.hub_look.proofs.table.show_each.Goals as goal

pub returns-in_err-outcome-clause-err : goal.returns-in_err-outcome-clause-err
returns-in_err-outcome-clause-err g c = shows_none (λ name. name.now) c.args.is_json _ _ _ c.args.names.now _ c.in_err-outcome.field-0.0 c.from_residual.ensures.1 c.in_err-outcome.ensures.err

pub returns-in_err-write_text-clause-err : goal.returns-in_err-write_text-clause-err
returns-in_err-write_text-clause-err g c =
    cuts_table (λ name. name.now) c.args.is_json _ _ _ _ c.args.names.now _ _ _ c.in_ok-outcome.outcome _ c.in_err-write_text.field-0.0 c.new-table.ensures.bytes c.in_ok-outcome.ensures.ok c.as_bytes.ensures.value c.from_residual-in_err-write_text.ensures.1 c.in_err-write_text.ensures.err

pub returns-clause-ok : goal.returns-clause-ok
returns-clause-ok g c = shows_table (λ name. name.now) c.args.is_json _ _ _ _ c.args.names.now _ _ _ c.in_ok-outcome.outcome c.new-table.ensures.bytes c.in_ok-outcome.ensures.ok c.as_bytes.ensures.value c.in_ok-write_text.ensures.ok

use Rattle.std.proofs.Common.{rules, ◌≡◌, Some, Err}
use Rattle.hub_io.proofs.Outcomes.{IfErr-known}
use Rattle.hub_endings.specs.declared.fault.Fault.TheVariants as fault
use Rattle.hub_serving.proofs.serving.serve.Goals as goal

pub returns-in_err-serve_all-clause-err : goal.returns-in_err-serve_all-clause-err
returns-in_err-serve_all-clause-err g c =
    let error = c.in_err-serve_all.field-0.0 in
    let is : c.from_residual-in_err-serve_all.result ≡ Err (fault.Serve error) = search rules in
    IfErr-known _ c.from_residual-in_err-serve_all.result (fault.Serve error) is
    (record { listener = Some c.in_ok-listen.field-0 }, c.serve_all.new.gate, (search rules), c.in_err-serve_all.ensures.err)

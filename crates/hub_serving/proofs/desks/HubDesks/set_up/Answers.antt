use Rattle.hub_serving.proofs.CarriedOut.{all_done, one_refused}
use Rattle.hub_serving.proofs.desks.HubDesks.set_up.Goals as goal

pub returns-in_err-done : goal.returns-in_err-done
returns-in_err-done g c =
    one_refused _ _ _ c.in_ok-own.own c.set_up-done.new.desk c.args.text.now c.set_up-done.result c.in_err-done.field-0.0 _ c.in_ok-own.ensures c.set_up-done.ensures c.in_err-done.was
    c.from_residual-in_err-done.ensures.1

pub returns : goal.returns
returns g c =
    all_done _ _ _ c.in_ok-own.own c.set_up-done.new.desk c.args.text.now c.set_up-done.result _ c.in_ok-own.ensures c.set_up-done.ensures c.in_ok-done.was

use Rattle.std.proofs.Common.{◌∙◌, refl}
use Rattle.hub_look.specs.Stops.{IsOwnStop}
use Rattle.hub_look.proofs.Judged.{stops_so}
use Rattle.hub_look.proofs.Subscribed.{not_between, one_try_more, tried_ok, tried_well}
use Rattle.hub_look.proofs.subscribing.subscribe_numbered.Goals as goal

pub tries-preserved : goal.tries-preserved
tries-preserved g c = record {
  begun = c.in_ok-followed.ensures.begun ∙ c.tries.invariant.begun;
  so_far = one_try_more _ _ _ c.args.name.now c.tries.invariant.so_far (not_between _ _ c.args.name.now c.in_ok-followed.field-0 c.in_ok-followed.ensures.ok c.in_default.is);
}

pub returns-in-Some-clause-ok : goal.returns-in-Some-clause-ok
returns-in-Some-clause-ok g c = tried_well _ _ _ c.args.name.now c.in_ok-followed.field-0 c.in-Some.followed c.tries.invariant.so_far c.in_ok-followed.ensures.ok c.in-Some.is

pub returns-clause-ok : goal.returns-clause-ok
returns-clause-ok g c = tried_ok _ _ _ c.args.name.now c.subscribe_by.result c.tries.invariant.so_far c.subscribe_by.ensures.ok

pub returns-in_err-followed-clause-err : goal.returns-in_err-followed-clause-err
returns-in_err-followed-clause-err g c = stops_so IsOwnStop _ c.in_err-followed.field-0.0 c.from_residual.ensures.1 c.in_err-followed.ensures.err

pub returns-in_err-followed-clause-begun : goal.returns-in_err-followed-clause-begun
returns-in_err-followed-clause-begun g c = c.in_err-followed.ensures.begun ∙ c.tries.invariant.begun

pub returns-in-Some-clause-begun : goal.returns-in-Some-clause-begun
returns-in-Some-clause-begun g c = c.in_ok-followed.ensures.begun ∙ c.tries.invariant.begun

pub returns-clause-begun : goal.returns-clause-begun
returns-clause-begun g c = c.subscribe_by.ensures.begun ∙ c.tries.invariant.begun

pub tries-init : goal.tries-init
tries-init g c = record { begun = refl; so_far = (0, refl) }

use Rattle.std.proofs.Common.{◌∙◌, []}
use Rattle.hub_look.specs.Stops.{IsOwnStop}
use Rattle.hub_look.proofs.Judged.{memory_stops, stops_so}
use Rattle.hub_look.proofs.Subscribed.{all_begun, all_named, begun_named, one_begun}
use Rattle.hub_look.proofs.subscribing.subscribe_to_all.Goals as goal

pub returns-in_err-put-clause-err : goal.returns-in_err-put-clause-err
returns-in_err-put-clause-err g c = memory_stops _ c.from_residual-in_err-put.ensures.1

pub names-preserved : goal.names-preserved
names-preserved g c =
    let following = c.args.following.now in
    let so_far = one_begun (λ word. word.now) (λ name. name.now) following.pattern following.form _ _ _ c.as_slice-names.result.now c.names.name-index (record { ref_ptr = (0, 0); now = [] }) c.names.all.items c.put.new.all.items c.in_ok-followed.followed
    c.names-test.true c.names.invariant.so_far c.in_ok-followed.ensures.ok c.in_ok-put.ensures in
    record {
      begun = c.in_ok-followed.ensures.begun ∙ c.names.invariant.begun;
      named = begun_named (λ word. word.now) following.pattern following.form _ _ _ c.put.new.all.items so_far;
      so_far = so_far;
    }

pub returns-in_err-followed-clause-err : goal.returns-in_err-followed-clause-err
returns-in_err-followed-clause-err g c = stops_so IsOwnStop _ c.in_err-followed.field-0.0 c.from_residual.ensures.1 c.in_err-followed.ensures.err

pub returns-clause-ok : goal.returns-clause-ok
returns-clause-ok g c =
    all_begun (λ word. word.now) (λ name. name.now) c.args.following.now.pattern c.args.following.now.form _ _ c.args.following.now.names.items c.as_slice-names.result.now c.names.name-index c.names.all.items c.names-test.false c.as_slice-names.ensures.value c.names.invariant.so_far

pub returns-in_err-followed-clause-begun : goal.returns-in_err-followed-clause-begun
returns-in_err-followed-clause-begun g c = c.in_err-followed.ensures.begun ∙ c.names.invariant.begun

pub returns-in_err-put-clause-begun : goal.returns-in_err-put-clause-begun
returns-in_err-put-clause-begun g c = c.in_ok-followed.ensures.begun ∙ c.names.invariant.begun

pub returns-clause-begun : goal.returns-clause-begun
returns-clause-begun g c = c.names.invariant.begun

pub returns-clause-names : goal.returns-clause-names
returns-clause-names g c = all_named (λ name. name.now) c.args.following.now.names.items c.as_slice-names.result.now c.names.name-index c.names.all.items c.names-test.false c.as_slice-names.ensures.value c.names.invariant.named

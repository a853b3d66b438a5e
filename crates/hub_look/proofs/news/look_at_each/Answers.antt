use Rattle.std.proofs.Common.{◌∙◌, get_or, refl, arith}
use Rattle.std.proofs.lemmas.List.{length-set}
use Rattle.hub_look.specs.Follows.{manner_of}
use Rattle.hub_look.proofs.Asked.{ends_looking, ends_round, looks_on, seen_to}
use Rattle.hub_look.proofs.news.look_at_each.Goals as goal

pub returns-in_err-came-clause-err : goal.returns-in_err-came-clause-err
returns-in_err-came-clause-err g c =
    let many = c.followed.invariant.many in
    let within = c.followed-test.true in
    ends_round (manner_of c.args.following.now) _ _ _ _ _ c.in_err-came.field-0.0 c.from_residual.ensures.1 c.followed.invariant.asked
    (ends_looking (manner_of c.args.following.now) c.followed.all c.followed.at c.index-all-at.result (get_or c.followed.all c.followed.at c.index-all-at.result) c.look_at.new.followed _ _ _ _ _ (omega (arith, many, within)) refl c.in_err-came.ensures.err)

pub followed-preserved : goal.followed-preserved
followed-preserved g c =
    let many = c.followed.invariant.many in
    let within = c.followed-test.true in
    record {
      begun = c.in_ok-came.ensures.begun ∙ c.followed.invariant.begun;
      many = length-set c.followed.all c.followed.at c.look_at.new.followed ∙ many;
      asked = looks_on (manner_of c.args.following.now) _ _ _ c.followed.invariant.asked
          (seen_to (manner_of c.args.following.now) c.followed.all c.followed.at c.index-all-at.result (get_or c.followed.all c.followed.at c.index-all-at.result) c.look_at.new.followed _ _ _ _ (omega (arith, many, within)) refl c.in_ok-came.ensures.ok);
    }

pub returns-in_err-came-clause-begun : goal.returns-in_err-came-clause-begun
returns-in_err-came-clause-begun g c = c.in_err-came.ensures.begun ∙ c.followed.invariant.begun

pub returns-clause-begun : goal.returns-clause-begun
returns-clause-begun g c = c.followed.invariant.begun

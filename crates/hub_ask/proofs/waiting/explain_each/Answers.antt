use Rattle.std.proofs.Common.{◌≡◌, [], true, false, subst, MatchOption}
use Rattle.hub_requests.specs.Names.{is_name}
use Rattle.hub_ask.proofs.Sent.{about_named, all_sent, front_at, front_so_far}
use Rattle.hub_ask.proofs.waiting.explain_each.Goals as goal

pub returns-in_err-name-clause-asked : goal.returns-in_err-name-clause-asked
returns-in_err-name-clause-asked g c = front_so_far _ _ c.names.text-index _ _ c.names.invariant

pub returns-in_err-explain_one-clause-asked : goal.returns-in_err-explain_one-clause-asked
returns-in_err-explain_one-clause-asked g c =
    let bytes = c.as_bytes.result.now in
    let named = subst (λ it. MatchOption it (is_name bytes ≡ false) (λ name. (is_name bytes ≡ true) × (name ≡ bytes))) c.in-Some.is c.in_ok-name.ensures.ok in
    front_at _ _ c.names.text-index (record { ref_ptr = (0, 0); now = [] }) _ _ _ _ c.names-test.true c.names.invariant
    (about_named c.args.want _ _ _ named.0 named.1 c.as_bytes.ensures.value) c.in_err-explain_one.ensures.err

pub returns-clause-all : goal.returns-clause-all
returns-clause-all g c = all_sent _ _ c.names.text-index _ _ c.names-test.false c.names.invariant

pub returns-clause-asked : goal.returns-clause-asked
returns-clause-asked g c = front_so_far _ _ c.names.text-index _ _ c.names.invariant

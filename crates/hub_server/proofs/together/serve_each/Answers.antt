use Rattle.std.proofs.Common.{arith}
use Rattle.std.proofs.lemmas.Slice.Zip.{AllZip-long}
use Rattle.hub_server.proofs.GivenSessions.{given_few}
use Rattle.hub_server.proofs.Joined.{results_in_order}
use Rattle.hub_server.proofs.together.serve_each.Goals as goal

pub returns-clause-most : goal.returns-clause-most
returns-clause-most g c =
    let few = given_few _ _ _ _ _ _ c.in_ok-gate_failed.ensures.ok in
    let each = AllZip-long _ _ _ (results_in_order g.O.Desks.opens g.O.Desks.stay _ _ _ _ c.args.desks.now _ _ c.in_ok-gate_failed.ensures.over c.in_ok-results.ensures) in
    omega arith

pub returns-clause-report : goal.returns-clause-report
returns-clause-report g c = record {
  given = _;
  asked = record { last = _; asked = c.in_ok-gate_failed.ensures.ok; closed = c.close.ensures };
  each = results_in_order g.O.Desks.opens g.O.Desks.stay _ _ _ _ c.args.desks.now _ _ c.in_ok-gate_failed.ensures.over c.in_ok-results.ensures;
}

use Rattle.std.proofs.Common.{◌≤◌}
use Rattle.hub_requests.specs.Wills.{wills_in}
use Rattle.hub_names.proofs.LastWords.{Leads}
use Rattle.hub_names.proofs.fifodirs.Fifodirs.carry_out.Given as goal

abbrev pub invariant-loop-place : goal.invariant-loop-place
invariant-loop-place g l = record {
  few : l.lost ≤ l.place;
  leads : Leads l.initial.self l.self (wills_in l.wills) l.place l.lost;
}

use Rattle.std.proofs.Common.{List}
use Rattle.hub_requests.specs.Wills.{wills_in}
use Rattle.hub_local.specs.Desks.{Fifodir}
use Rattle.hub_local.specs.Representing.{AreKept}
use Rattle.hub_local.proofs.Willed.{Leads}
use Rattle.hub_local.proofs.local_desk.wills.carry_out.Given as goal

abbrev pub invariant-loop-place : goal.invariant-loop-place
invariant-loop-place l = (model : List Fifodir) → AreKept l.initial.fifodirs.entries model → Leads l.fifodirs.entries model (wills_in l.wills) l.place

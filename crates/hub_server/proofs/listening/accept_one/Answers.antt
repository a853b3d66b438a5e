use Rattle.std.proofs.Common.{suc}
use Rattle.hub_server.proofs.listening.accept_one.Goals as goal

pub faults-preserved : goal.faults-preserved
faults-preserved g c = (
  suc c.faults.invariant.0,
  (c.faults.listener, c.in-Err.fault, c.faults.invariant.1, c.passes.ensures.0 c.if-passes.true, c.in-Err.ensures),
)

use Rattle.std.proofs.Common.{[]}
use Rattle.hub_look.proofs.Judged.{width_step}
use Rattle.hub_look.proofs.table.width_of.Goals as goal

pub names-preserved : goal.names-preserved
names-preserved c =
    width_step (λ name. name.now) c.args.names.now c.names.name-index (record { ref_ptr = (0, 0); now = [] }) c.names.width c.max-width.result c.names-test.true c.names.invariant c.max-width.ensures

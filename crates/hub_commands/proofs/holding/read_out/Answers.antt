use Rattle.hub_io.proofs.Told.{Rises-trans}
use Rattle.hub_commands.proofs.Held.{read_on}
use Rattle.hub_commands.proofs.holding.read_out.Goals as goal

pub reads-preserved : goal.reads-preserved
reads-preserved g c = (
  read_on (g.R.Read.remaining c.args.input.now) (g.R.Read.remaining c.reads.input) (g.R.Read.remaining c.pull.new.self) _ c.reads.invariant.0 c.in-Ok.ensures.bytes.0,
  Rises-trans (g.R.Source.faults c.args.input.now) (g.R.Source.faults c.reads.input) (g.R.Source.faults c.pull.new.self) 0 c.reads.invariant.1 c.in-Ok.ensures.told,
)

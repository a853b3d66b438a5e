use Rattle.std.specs.Io.KnownBytes.{Keeps}
use Rattle.hub_io.proofs.again.read_again.Given as goal

-- the calls that were interrupted passed no byte
abbrev pub invariant-tries : goal.invariant-tries
invariant-tries g l = Keeps (g.R.Read.remaining l.fn.reader) (g.R.Read.remaining l.reader)

use Rattle.std.specs.Io.KnownBytes.{Keeps}
use Rattle.hub_io.proofs.again.write_again.Given as goal

-- the calls that were interrupted passed no byte
abbrev pub invariant-tries : goal.invariant-tries
invariant-tries g l = Keeps (g.W.Write.contents l.fn.writer) (g.W.Write.contents l.writer)

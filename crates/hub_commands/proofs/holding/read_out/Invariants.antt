use Rattle.std.specs.Prelude.{ℕ, List}
use Rattle.std.specs.Io.KnownBytes.{Consumes}
use Rattle.hub_io.specs.Telling.{Rises}
use Rattle.hub_commands.proofs.holding.read_out.Given as goal

-- a front of the input was read, and no read failed
abbrev pub invariant-reads : goal.invariant-reads
invariant-reads g l = ((read : List ℕ) × Consumes (g.R.Read.remaining l.fn.input) (g.R.Read.remaining l.input) read)
    × Rises (g.R.Source.faults l.fn.input) (g.R.Source.faults l.input) 0

use Rattle.std.proofs.Common.{vec_len}
use Rattle.hub_core_tests.proofs.tests.passes.end_all.Given as goal

abbrev pub decreases-loop-held : goal.decreases-loop-held
decreases-loop-held g l = vec_len l.list

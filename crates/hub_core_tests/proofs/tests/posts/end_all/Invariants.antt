use Rattle.std.proofs.Common.{vec_len}
use Rattle.hub_core_tests.proofs.tests.posts.end_all.Given as goal

abbrev pub decreases-loop-post : goal.decreases-loop-post
decreases-loop-post g l = vec_len l.posts

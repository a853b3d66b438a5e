use Rattle.std.proofs.Common.{◌≡◌, take}
use Rattle.hub_wait.specs.Verdicts.{tally_of}
use Rattle.hub_wait.specs.Waits.{watches_of}
use Rattle.hub_wait.proofs.post.undecided.look.Given as goal

abbrev pub invariant-loop-post : goal.invariant-loop-post
invariant-loop-post l = l.tally ≡ tally_of l.fn.span (watches_of (take l.post-index l.posts))

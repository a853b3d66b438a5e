use Rattle.std.proofs.Common.{◌≡◌, take}
use Rattle.hub_record.specs.World.{letters}
use Rattle.hub_wait.proofs.post.copy_letters.Given as goal

abbrev pub invariant-loop-i : goal.invariant-loop-i
invariant-loop-i l = take l.i l.out ≡ letters (take l.i l.events)

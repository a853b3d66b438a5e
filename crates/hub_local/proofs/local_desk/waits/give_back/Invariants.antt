use Rattle.std.proofs.Common.{◌≡◌, List, drop}
use Rattle.hub_local.specs.Desks.{Fifodir}
use Rattle.hub_local.specs.Representing.{AreKept}
use Rattle.hub_local.specs.Waits.{without_posts}
use Rattle.hub_local.proofs.local_desk.waits.give_back.Given as goal

-- from here the rest of the list leads to what the whole list leads to
abbrev pub invariant-loop-i : goal.invariant-loop-i
invariant-loop-i l = (model : List Fifodir) → AreKept l.initial.fifodirs.entries model
    → (now : List Fifodir) × AreKept l.fifodirs.entries now × (without_posts now (drop l.i l.names) (drop l.i l.posts) ≡ without_posts model l.names l.posts)

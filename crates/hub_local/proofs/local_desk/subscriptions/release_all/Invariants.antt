use Rattle.std.proofs.Common.{◌≡◌, List}
use Rattle.hub_local.specs.Desks.{Fifodir, without_all}
use Rattle.hub_local.specs.Representing.{AreKept}
use Rattle.hub_local.proofs.local_desk.subscriptions.release_all.Given as goal

-- from here the rest of the list leads to what the whole list leads to
abbrev pub invariant-loop-holding : goal.invariant-loop-holding
invariant-loop-holding l = (model : List Fifodir) → AreKept l.initial.fifodirs.entries model
    → (now : List Fifodir) × AreKept l.fifodirs.entries now × (without_all now l.holding-iterator ≡ without_all model l.initial.holding-iterator)

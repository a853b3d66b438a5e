use Rattle.std.proofs.Common.{◌≡◌, ◌≤◌, List, length, take, vec_len, vec_capacity}
use Rattle.hub_local.specs.Desks.{Fifodir}
use Rattle.hub_local.specs.Representing.{AreKept}
use Rattle.hub_local.specs.Waits.{so_far, opening_of}
use Rattle.hub_local.proofs.local_desk.waits.open_all.Given as goal

abbrev pub invariant-loop-name : goal.invariant-loop-name
invariant-loop-name l = record {
  opens : (model : List Fifodir) → AreKept l.initial.fifodirs.entries model
      → (now : List Fifodir) × AreKept l.fifodirs.entries now × (opening_of l.want model (take l.name-index l.names) ≡ so_far now l.posts.items);
  count : vec_len l.posts ≡ l.name-index;
  room : length l.names ≤ vec_capacity l.posts;
}

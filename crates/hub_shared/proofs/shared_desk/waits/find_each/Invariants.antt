use Rattle.std.proofs.Common.{◌≡◌, ◌≤◌, length, take, vec_len, vec_capacity}
use Rattle.hub_names.specs.Fifodirs.{KeepsAll}
use Rattle.hub_shared.specs.Waits.{AreFound, AreSeen}
use Rattle.hub_shared.proofs.shared_desk.waits.find_each.Given as goal

abbrev pub invariant-loop-name : goal.invariant-loop-name
invariant-loop-name g l = record {
  kept : KeepsAll l.hub l.initial.fifodirs l.fifodirs;
  seen : AreSeen l.fifodirs (take l.name-index l.names) l.plain;
  found : AreFound l.fifodirs (take l.name-index l.names) l.found.items;
  count : vec_len l.found ≡ l.name-index;
  room : length l.names ≤ vec_capacity l.found;
}

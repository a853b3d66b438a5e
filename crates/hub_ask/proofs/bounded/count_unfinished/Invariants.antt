use Rattle.std.proofs.Common.{◌≡◌, ◌+◌, ◌≤◌, take}
use Rattle.hub_ask.specs.Bounding.{unfinished_after}
use Rattle.hub_ask.proofs.bounded.count_unfinished.Given as goal

-- the count after the bytes so far
abbrev pub invariant-bytes : goal.invariant-bytes
invariant-bytes l = record {
  counted : l.count ≡ unfinished_after l.unfinished (take l.byte-index l.bytes);
  few : l.count ≤ l.unfinished + l.byte-index;
}

use Rattle.std.proofs.Common.{◌≡◌, ◌≤◌, length, take, vec_len, vec_capacity}
use Rattle.hub_requests.proofs.listing.copies.Given as goal

abbrev pub invariant-loop-name : goal.invariant-loop-name
invariant-loop-name l = record {
  copied : l.copies.items ≡ take l.name-index l.names;
  count : vec_len l.copies ≡ l.name-index;
  room : length l.names ≤ vec_capacity l.copies;
}

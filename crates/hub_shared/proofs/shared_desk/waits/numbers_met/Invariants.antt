use Rattle.std.proofs.Common.{◌≡◌, ◌≤◌, length, map, take, vec_len, vec_capacity}
use Rattle.hub_shared.specs.Waits.{number_met}
use Rattle.hub_shared.proofs.shared_desk.waits.numbers_met.Given as goal

abbrev pub invariant-loop-post : goal.invariant-loop-post
invariant-loop-post l = record {
  read : l.room.items ≡ map number_met (take l.post-index l.posts);
  count : vec_len l.room ≡ l.post-index;
  room : length l.posts ≤ vec_capacity l.room;
}

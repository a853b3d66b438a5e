use Rattle.std.proofs.Common.{◌≡◌, ◌≤◌, ◌++◌, length, vec_len, vec_capacity}
use Rattle.hub_shared.specs.Waits.{AreOpened}
use Rattle.hub_shared.proofs.shared_desk.waits.open_each.Given as goal

abbrev pub invariant-loop-made : goal.invariant-loop-made
invariant-loop-made g l = record {
  all : l.fn.found.items ≡ l.yielded ++ l.made-iterator.rest.items;
  opened : AreOpened l.want l.yielded l.posts.items;
  count : vec_len l.posts ≡ length l.yielded;
  room : length l.fn.found.items ≤ vec_capacity l.posts;
}

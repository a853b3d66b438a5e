use Rattle.std.proofs.Common.{◌≡◌, ◌≤◌, length, map, take, vec_len, vec_capacity}
use Rattle.hub_wait.specs.Verdicts.{tally_of}
use Rattle.hub_local.specs.Waits.{number_of}
use Rattle.hub_local.proofs.local_desk.waits.verdict_shown.Given as goal

abbrev pub invariant-loop-post : goal.invariant-loop-post
invariant-loop-post l = record {
  tally : l.tally ≡ tally_of l.fn.span (map (λ post. post.watch) (take l.post-index l.posts));
  shown : l.numbers.items ≡ map number_of (take l.post-index l.posts);
  count : vec_len l.numbers ≡ l.post-index;
  room : length l.posts ≤ vec_capacity l.numbers;
}

use Rattle.std.proofs.Common.{◌≡◌, ℕ, ◌<◌, slice_index}
use Rattle.regex_dfa.specs.Moves.{Has}
use Rattle.hub_listen.proofs.states.States.copy.Given as goal

abbrev pub invariant-loop-k : goal.invariant-loop-k
invariant-loop-k l = record {
  count : l.self.count ≡ l.other.count;
  all : (j : ℕ) → j < l.k → Has l.self.items (slice_index l.other.items j);
  only : (q : ℕ) → Has l.self.items q → Has l.other.items q;
}

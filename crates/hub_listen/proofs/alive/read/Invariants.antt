use Rattle.std.proofs.Common.{◌≡◌, ℕ, ◌<◌, Some, vec_len, slice_index}
use Rattle.regex_nfa.specs.States.{next_on}
use Rattle.regex_nfa.specs.Run.{state_of}
use Rattle.regex_dfa.specs.Moves.{Has}
use Rattle.hub_listen.proofs.alive.read.Given as goal

abbrev pub invariant-loop-k : goal.invariant-loop-k
invariant-loop-k l = record {
  room : l.states.count ≡ vec_len l.nfa.states;
  all : (j r : ℕ) → j < l.k → next_on l.nfa.transitions.items (state_of l.nfa (slice_index l.reached.items j)) l.byte ≡ Some r → Has l.states.items r;
  only : (r : ℕ) → Has l.states.items r
      → (q : ℕ) × Has l.reached.items q × (next_on l.nfa.transitions.items (state_of l.nfa q) l.byte ≡ Some r);
}

use Rattle.std.proofs.Common.{◌≡◌, ◌-◌, vec_len}
use Rattle.hub_listen.specs.Alive.{ClosesBelow}
use Rattle.hub_listen.proofs.alive.close.Given as goal

abbrev pub invariant-loop-done : goal.invariant-loop-done
invariant-loop-done l = record {
  room : l.reached.count ≡ vec_len l.nfa.states;
  closed : ClosesBelow l.nfa l.text l.at l.fn.reached.items l.reached.items l.done;
}

abbrev pub decreases-loop-done : goal.decreases-loop-done
decreases-loop-done l = vec_len l.nfa.states - l.done

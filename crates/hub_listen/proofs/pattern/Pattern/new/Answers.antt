use Rattle.std.proofs.Common.{◌≤◌, ◌+◌, List, ℕ, length, sym, subst}
use Rattle.hub_listen.specs.Alive.{SearchesFor}
use Rattle.hub_listen.specs.Size.{bytes_for}
use Rattle.hub_listen.specs.declared.size.TheConstants.{MOST_BYTES}
use Rattle.hub_listen.proofs.pattern.Pattern.new.Goals as goal

pub invariant_of-result : goal.invariant_of-result
invariant_of-result c = record {
  searches = subst (λ (t : List ℕ). ∥ SearchesFor c.in_ok-nfa.nfa t ∥₁) (sym c.in_ok-text.ensures.ok) c.in_ok-nfa.ensures.searches;
  small = subst (λ (t : List ℕ). bytes_for c.in_ok-nfa.nfa + length t ≤ MOST_BYTES) (sym c.in_ok-text.ensures.ok) (c.is_small.ensures.0 c.if-not-is_small.false);
}

pub returns-clause-small : goal.returns-clause-small
returns-clause-small c = record {
  nfa = c.in_ok-nfa.nfa;
  searches = c.in_ok-nfa.ensures.searches;
  small = c.is_small.ensures.0 c.if-not-is_small.false;
}

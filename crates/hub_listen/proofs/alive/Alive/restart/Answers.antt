use Rattle.std.proofs.Common.{◌≡◌, ap, subst}
use Rattle.regex_dfa.specs.Walks.{Grows}
use Rattle.hub_listen.specs.States.{StateList}
use Rattle.hub_listen.proofs.Closed.{AreAlive-start}
use Rattle.hub_listen.proofs.alive.Alive.restart.Goals as goal

pub returns-clause-alive : goal.returns-clause-alive
returns-clause-alive c =
    let empty = ap (λ (s : StateList). s.items) c.clear.ensures in
    AreAlive-start c.args.nfa.now _ (subst (λ old. Grows (λ q. c.args.nfa.now.unanchored ≡ q) old c.add.new.self.items) empty c.add.ensures.grows) c.add.ensures.has

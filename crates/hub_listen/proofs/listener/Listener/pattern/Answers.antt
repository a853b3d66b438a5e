use Rattle.std.proofs.Common.{subst}
use Rattle.hub_listen.specs.Alive.{SearchesFor}
use Rattle.hub_listen.specs.Listening.{Listening}
use Rattle.hub_listen.proofs.listener.Listener.pattern.Goals as goal

pub returns-clause-searches : goal.returns-clause-searches
returns-clause-searches c = let l = c.self.inside in
    subst (λ (now : Listening). ∥ SearchesFor l.pattern.nfa now.pattern ∥₁) c.self.view_is l.pattern.searches

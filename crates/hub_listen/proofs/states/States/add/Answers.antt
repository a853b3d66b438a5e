use Rattle.std.proofs.Common.{◌≡◌, ◌+◌, ◌<◌, length, sym, ap, subst, arith}
use Rattle.std.proofs.lemmas.Bool.{not-false}
use Rattle.regex_vm.specs.Bits.{members}
use Rattle.regex_dfa.specs.Walks.{Grows}
use Rattle.regex_dfa.proofs.BackLemmas.{Tracks-has, Grows-refl, Grows-push}
use Rattle.regex_dfa.proofs.HasLemmas.{Has-push}
use Rattle.hub_listen.specs.States.{StateList}
use Rattle.hub_listen.proofs.Listed.{IsListed-push}
use Rattle.hub_listen.proofs.states.States.add.Goals as goal

pub invariant_of-self : goal.invariant_of-self
invariant_of-self c =
    let counted : members c.insert.new.self ≡ members c.self.inside.set + 1 = rw c.if-insert.true at c.insert.ensures.counted in
    let count = ap (λ (s : StateList). s.count) c.self.view_is in
    let inside : c.args.state < length c.self.inside.set = omega (arith, c.requires) in
    IsListed-push c.self.inside _ c.args.state c.self.invariant inside c.insert.ensures.after c.push_reserved.ensures.items counted c.push_reserved.ensures.capacity

pub returns-then-insert-clause-grows : goal.returns-then-insert-clause-grows
returns-then-insert-clause-grows c =
    subst (λ old. Grows (λ q. c.args.state ≡ q) old c.push_reserved.new.self.items) (ap (λ (s : StateList). s.items) c.self.view_is)
    (rw c.push_reserved.ensures.items (Grows-push _ _))

pub returns-then-insert-clause-has : goal.returns-then-insert-clause-has
returns-then-insert-clause-has c = rw c.push_reserved.ensures.items (Has-push _ _)

pub returns-else-insert-clause-grows : goal.returns-else-insert-clause-grows
returns-else-insert-clause-grows c =
    subst (λ old. Grows (λ q. c.args.state ≡ q) old c.self.inside.list.items) (ap (λ (s : StateList). s.items) c.self.view_is) (Grows-refl _ _)

pub returns-else-insert-clause-has : goal.returns-else-insert-clause-has
returns-else-insert-clause-has c = (Tracks-has _ _ _ c.self.invariant.tracks).0 (not-false _ (sym c.if-insert.ensures.new))

use Rattle.std.proofs.Common.{sym, subst, ⊎_elim, ◌∙◌}
use Rattle.regex_nfa.specs.Paths.{EmptyEdge, by_first, by_second, by_save, by_look}
use Rattle.regex_dfa.specs.Moves.{Has}
use Rattle.regex_dfa.proofs.BackLemmas.{Grows-refl, Grows-trans, Grows-keeps}
use Rattle.hub_listen.proofs.Listed.{Grows-weaken, edges_of_split}
use Rattle.hub_listen.proofs.alive.follow.Goals as goal

pub returns-in-Split-clause-grows : goal.returns-in-Split-clause-grows
returns-in-Split-clause-grows c =
    let edge = EmptyEdge c.args.nfa.now c.args.text.now c.args.at c.args.state in
    let is = sym c.state.ensures.is ∙ c.in-Split.is in
    Grows-trans edge _ _ _ _ (λ q e. subst edge e (by_second c.in-Split.first is))
    (Grows-weaken edge _ _ _ (λ q e. subst edge e (by_first c.in-Split.second is)) c.add.ensures.grows) c.add-in-Split.ensures.grows

pub returns-in-Split-clause-all : goal.returns-in-Split-clause-all
returns-in-Split-clause-all c q edge =
    let is = sym c.state.ensures.is ∙ c.in-Split.is in
    let has = Has c.add-in-Split.new.self.items in
    ⊎_elim (λ e. subst has e (Grows-keeps _ _ _ _ c.add-in-Split.ensures.grows c.add.ensures.has))
    (λ e. subst has e c.add-in-Split.ensures.has)
    (edges_of_split _ _ _ _ q _ _ is edge)

pub returns-in-Save-clause-grows : goal.returns-in-Save-clause-grows
returns-in-Save-clause-grows c =
    let edge = EmptyEdge c.args.nfa.now c.args.text.now c.args.at c.args.state in
    let is = sym c.state.ensures.is ∙ c.in-Save.is in
    Grows-weaken edge _ _ _ (λ q e. subst edge e (by_save c.in-Save.slot is)) c.add-in-Save.ensures.grows

pub returns-then-holds-clause-grows : goal.returns-then-holds-clause-grows
returns-then-holds-clause-grows c =
    let edge = EmptyEdge c.args.nfa.now c.args.text.now c.args.at c.args.state in
    let is = sym c.state.ensures.is ∙ c.in-Look.is in
    Grows-weaken edge _ _ _ (λ q e. subst edge e (by_look c.in-Look.look is (sym c.holds.ensures ∙ c.if-holds.true))) c.add-then-holds.ensures.grows

pub returns-else-holds-clause-grows : goal.returns-else-holds-clause-grows
returns-else-holds-clause-grows c = Grows-refl _ _

pub returns-in-Match-clause-grows : goal.returns-in-Match-clause-grows
returns-in-Match-clause-grows c = Grows-refl _ _

pub returns-in_default-clause-grows : goal.returns-in_default-clause-grows
returns-in_default-clause-grows c = Grows-refl _ _

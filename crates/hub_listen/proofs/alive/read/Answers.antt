use Rattle.std.proofs.Common.{◌≡◌, ℕ, ◌<◌, Option, length, ◌∙◌, sym, ap, subst, arith}
use Rattle.std.proofs.lemmas.Option.{same_Some}
use Rattle.regex_nfa.specs.Run.{state_of}
use Rattle.regex_nfa.specs.States.{next_on}
use Rattle.regex_dfa.proofs.BackLemmas.{Grows-keeps}
use Rattle.regex_dfa.specs.Moves.{Has}
use Rattle.regex_dfa.proofs.HasLemmas.{Has-nil, index_of_Has}
use Rattle.hub_listen.specs.States.{StateList}
use Rattle.hub_listen.proofs.Listed.{read_more, read_only}
use Rattle.hub_listen.proofs.alive.read.Goals.{in-Some, in_default}
use Rattle.hub_listen.proofs.alive.read.Goals as goal

pub loop-k-init : goal.loop-k-init
loop-k-init c = record {
  room = ap (λ (s : StateList). s.count) c.clear.ensures ∙ c.requires.room;
  all = λ j r below. absurd (omega arith);
  only = λ r h. absurd (Has-nil r (subst (λ xs. Has xs r) (ap (λ (s : StateList). s.items) c.clear.ensures) h));
}

pub loop-k-preserved : goal.loop-k-preserved
loop-k-preserved c =
    let before = c.loop-k.invariant in
    let nfa = c.args.nfa.now in
    let from = c.args.reached.now.items in
    let goes : ℕ → Option ℕ = λ q. next_on nfa.transitions.items (state_of nfa q) c.args.byte in
    let len = c.len-k-end.ensures.value in
    let inside : c.loop-k.k < length from = omega arith in
    let is = c.get.ensures.value in
    let gone : c.next_on.result ≡ goes c.get.result =
    c.next_on.ensures.is ∙ ap (λ s. next_on nfa.transitions.items s c.args.byte) c.state-state.ensures.is in
    elim c.match-next_on.branch [
      | in-Some w ↦ let e = sym gone ∙ w.in-Some.is in rw w.states-is (record {
        room = w.add.ensures.count ∙ before.room;
        all = read_more from goes _ _ _ _ inside is (λ r h. Grows-keeps _ _ _ r w.add.ensures.grows h)
            (λ r to. subst (Has w.add.new.self.items) (same_Some _ r (sym e ∙ to)) w.add.ensures.has) before.all;
        only = read_only from goes _ _ _ _ inside is _ e w.add.ensures.grows before.only;
      })
      | in_default w ↦ rw w.states-is (record {
        room = before.room;
        all = read_more from goes _ _ _ _ inside is (λ r h. h) (λ r to. absurd (w.in_default.not-Some r (gone ∙ to))) before.all;
        only = before.only;
      })
    ]

pub returns-clause-read : goal.returns-clause-read
returns-clause-read c r =
    let len = c.len-k-end.ensures.value in (
      c.loop-k.invariant.only r,
      λ (q, has, goes).
          let at = index_of_Has _ q has in
          let below = at.1 in
          c.loop-k.invariant.all at.0 r (omega arith)
          (ap (λ x. next_on c.args.nfa.now.transitions.items (state_of c.args.nfa.now x) c.args.byte) at.2 ∙ goes),
    )

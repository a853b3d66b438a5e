use Rattle.std.proofs.Common.{◌<◌, ◌≤◌, length, ◌∙◌, ap, subst, arith}
use Rattle.regex_dfa.specs.Moves.{Has}
use Rattle.regex_dfa.proofs.HasLemmas.{Has-nil}
use Rattle.hub_listen.specs.States.{StateList}
use Rattle.hub_listen.proofs.Listed.{added_more, added_only, added_all}
use Rattle.hub_listen.proofs.states.States.copy.Goals as goal

pub loop-k-init : goal.loop-k-init
loop-k-init c = record {
  count = ap (λ (s : StateList). s.count) c.clear.ensures ∙ c.requires;
  all = λ j below. absurd (omega arith);
  only = λ q h. absurd (Has-nil q (subst (λ xs. Has xs q) (ap (λ (s : StateList). s.items) c.clear.ensures) h));
}

pub loop-k-preserved : goal.loop-k-preserved
loop-k-preserved c =
    let before = c.loop-k.invariant in
    let len = c.len-k-end.ensures.value in
    let inside : c.loop-k.k < length c.args.other.now.items = omega arith in record {
      count = c.add.ensures.count ∙ before.count;
      all = added_more _ _ _ _ _ inside c.get.ensures.value c.add.ensures.grows c.add.ensures.has before.all;
      only = added_only _ _ _ _ _ inside c.get.ensures.value c.add.ensures.grows c.add.ensures.has before.only;
    }

pub returns-clause-same : goal.returns-clause-same
returns-clause-same c q =
    let len = c.len-k-end.ensures.value in
    let past : length c.args.other.now.items ≤ c.loop-k.k = omega arith in
    (c.loop-k.invariant.only q, added_all _ _ c.loop-k.k past c.loop-k.invariant.all q)

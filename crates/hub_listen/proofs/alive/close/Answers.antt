use Rattle.std.proofs.Common.{◌<◌, ◌≤◌, length, sym, ◌∙◌, subst, arith}
use Rattle.regex_dfa.specs.Moves.{Has}
use Rattle.regex_dfa.proofs.HasLemmas.{Has-at}
use Rattle.hub_listen.proofs.Closed.{closes_more, closes_all}
use Rattle.hub_listen.proofs.alive.close.Goals as goal

pub returns-then-follow-clause-found : goal.returns-then-follow-clause-found
returns-then-follow-clause-found c =
    let items = c.loop-done.reached.items in
    let len = c.len.ensures.value in
    let inside : c.loop-done.done < length items = omega arith in λ _. record {
      state = c.get-state.result;
      reached = c.loop-done.invariant.closed.reached _ (subst (Has items) (sym c.get-state.ensures.value) (Has-at items c.loop-done.done 0 inside));
      match_state = c.follow.ensures.matched c.if-follow.true;
    }

pub loop-done-preserved : goal.loop-done-preserved
loop-done-preserved c =
    let items = c.loop-done.reached.items in
    let len = c.len.ensures.value in
    let inside : c.loop-done.done < length items = omega arith in record {
      room = c.follow.ensures.room ∙ c.loop-done.invariant.room;
      closed = closes_more _ _ _ _ _ _ _ _ inside c.get-state.ensures.value c.follow.ensures.grows c.follow.ensures.all
          (c.follow.ensures.unmatched c.if-follow.false) c.loop-done.invariant.closed;
    }

pub returns-clause-closed : goal.returns-clause-closed
returns-clause-closed c =
    let len = c.len.ensures.value in
    let past : length c.loop-done.reached.items ≤ c.loop-done.done = omega arith in
    λ _. closes_all _ _ _ _ _ c.loop-done.done past c.loop-done.invariant.closed

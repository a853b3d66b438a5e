use Rattle.std.proofs.Common.{inl, refl, sym, ◌∙◌, inr, subst, IfNone, is_some, true, ◌≡◌}
use Rattle.hub_look.specs.Follows.{manner_of}
use Rattle.hub_look.proofs.Asked.{ends_round, looks_on}
use Rattle.hub_look.proofs.news.look_on.Goals as goal

pub returns-in_err-came-clause-err : goal.returns-in_err-came-clause-err
returns-in_err-came-clause-err g c =
    ends_round (manner_of c.args.following.now) _ _ _ _ _ c.in_err-came.field-0.0 c.from_residual.ensures.1 c.rounds.invariant.looks c.in_err-came.ensures.err

pub rounds-preserved : goal.rounds-preserved
rounds-preserved g c = record {
  begun = c.in_ok-came.ensures.begun ∙ c.rounds.invariant.begun;
  looks = looks_on (manner_of c.args.following.now) _ _ _ c.rounds.invariant.looks c.in_ok-came.ensures.ok;
}

pub returns-then-are_over-clause-ok : goal.returns-then-are_over-clause-ok
returns-then-are_over-clause-ok g c = (c.rounds.invariant.looks, inl (refl, sym c.are_over.ensures ∙ c.if-are_over.true))

pub returns-then-are_over-clause-begun : goal.returns-then-are_over-clause-begun
returns-then-are_over-clause-begun g c = c.rounds.invariant.begun

pub returns-in_default-clause-begun : goal.returns-in_default-clause-begun
returns-in_default-clause-begun g c = c.rounds.invariant.begun

pub returns-in_err-came-clause-begun : goal.returns-in_err-came-clause-begun
returns-in_err-came-clause-begun g c = c.in_err-came.ensures.begun ∙ c.rounds.invariant.begun

pub returns-in_default-clause-ok : goal.returns-in_default-clause-ok
returns-in_default-clause-ok g c = (c.rounds.invariant.looks, inr (refl, subst (λ it. IfNone it (is_some c.args.following.now.until ≡ true)) c.in_default.is c.millis_left.ensures))

pub rounds-init : goal.rounds-init
rounds-init g c = record { begun = refl; looks = (0, refl) }

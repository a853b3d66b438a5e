use Rattle.std.proofs.Common.{refl, ◌∙◌}
use Rattle.hub_look.specs.Stops.{IsOwnStop}
use Rattle.hub_look.proofs.Judged.{memory_stops, stops_so}
use Rattle.hub_look.proofs.Subscribed.{cancelled, numbered}
use Rattle.hub_look.proofs.subscribing.subscribe_between.Goals as goal

pub returns-then-branch-before-clause-ok : goal.returns-then-branch-before-clause-ok
returns-then-branch-before-clause-ok g c =
    numbered _ _ _ _ c.args.name.now c.in_ok-before.before c.in_ok-events_of.field-0 _ c.in_ok-before.ensures.ok c.in_ok-handle.ensures.ok c.in_ok-events_of.ensures.ok c.if-branch-before.true
    (record { named = c.in_ok-from_str.ensures.ok; number = refl; lasts = refl })

pub returns-in-Done-clause-ok : goal.returns-in-Done-clause-ok
returns-in-Done-clause-ok g c =
    cancelled _ _ _ _ _ c.args.name.now c.in_ok-handle.handle c.in_ok-before.before c.in_ok-events_of.field-0 _ _ c.in_ok-before.ensures.ok c.in_ok-handle.ensures.ok c.in_ok-events_of.ensures.ok c.if-branch-before.false
    c.in_ok-heard.ensures.ok c.reply.ensures

pub returns-in_err-before-clause-err : goal.returns-in_err-before-clause-err
returns-in_err-before-clause-err g c = stops_so IsOwnStop _ c.in_err-before.field-0.0 c.from_residual.ensures.1 c.in_err-before.ensures.err

pub returns-in_err-handle-clause-err : goal.returns-in_err-handle-clause-err
returns-in_err-handle-clause-err g c = stops_so IsOwnStop _ c.in_err-handle.field-0.0 c.from_residual-in_err-handle.ensures.1 c.in_err-handle.ensures.err

pub returns-in_err-events_of-clause-err : goal.returns-in_err-events_of-clause-err
returns-in_err-events_of-clause-err g c = stops_so IsOwnStop _ c.in_err-events_of.field-0.0 c.from_residual-in_err-events_of.ensures.1 c.in_err-events_of.ensures.err

pub returns-in_err-heard-clause-err : goal.returns-in_err-heard-clause-err
returns-in_err-heard-clause-err g c = stops_so IsOwnStop _ c.in_err-heard.field-0.0 c.from_residual-in_err-heard.ensures.1 c.in_err-heard.ensures.err

pub returns-in_err-from_str-clause-err : goal.returns-in_err-from_str-clause-err
returns-in_err-from_str-clause-err g c = memory_stops _ c.from_residual-in_err-from_str.ensures.1

pub returns-in_err-handle-clause-begun : goal.returns-in_err-handle-clause-begun
returns-in_err-handle-clause-begun g c = c.in_err-handle.ensures.begun ∙ c.in_ok-before.ensures.begun

pub returns-in_err-events_of-clause-begun : goal.returns-in_err-events_of-clause-begun
returns-in_err-events_of-clause-begun g c = c.in_err-events_of.ensures.begun ∙ c.in_ok-handle.ensures.begun ∙ c.in_ok-before.ensures.begun

pub returns-in_err-from_str-clause-begun : goal.returns-in_err-from_str-clause-begun
returns-in_err-from_str-clause-begun g c = c.in_ok-events_of.ensures.begun ∙ c.in_ok-handle.ensures.begun ∙ c.in_ok-before.ensures.begun

pub returns-then-branch-before-clause-begun : goal.returns-then-branch-before-clause-begun
returns-then-branch-before-clause-begun g c = c.in_ok-events_of.ensures.begun ∙ c.in_ok-handle.ensures.begun ∙ c.in_ok-before.ensures.begun

pub returns-in_err-heard-clause-begun : goal.returns-in_err-heard-clause-begun
returns-in_err-heard-clause-begun g c = c.in_err-heard.ensures.begun ∙ c.in_ok-events_of.ensures.begun ∙ c.in_ok-handle.ensures.begun ∙ c.in_ok-before.ensures.begun

pub returns-in-Done-clause-begun : goal.returns-in-Done-clause-begun
returns-in-Done-clause-begun g c = c.in_ok-heard.ensures.begun ∙ c.in_ok-events_of.ensures.begun ∙ c.in_ok-handle.ensures.begun ∙ c.in_ok-before.ensures.begun

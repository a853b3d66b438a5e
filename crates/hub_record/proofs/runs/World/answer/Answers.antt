use Rattle.std.proofs.Common.{sym, ◌∙◌}
use Rattle.hub_record.proofs.Gathered.{gathered_at_cancel, gathered_at_subscribe}
use Rattle.hub_record.proofs.runs.World.answer.Goals as goal

pub returns-in-Cancel-clause-gathered : goal.returns-in-Cancel-clause-gathered
returns-in-Cancel-clause-gathered c = λ w s h. h ∙ sym (gathered_at_cancel w _ _ _ c.in-Cancel.is)

pub returns-in-Ok-clause-gathered : goal.returns-in-Ok-clause-gathered
returns-in-Ok-clause-gathered c = λ w s h. gathered_at_subscribe w _ _ _ _ _ c.in-Subscribe.is (c.in-Ok.ensures.reply w s) h c.in_ok-begin-in-Ok.ensures

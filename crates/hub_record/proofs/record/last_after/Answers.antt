use Rattle.std.proofs.Common.{sym, ◌∙◌}
use Rattle.hub_record.proofs.Last.{last_of_some}
use Rattle.hub_record.proofs.record.last_after.Goals as goal

pub returns : goal.returns
returns c = λ events e. last_of_some events c.args.who c.args.letters.now (sym c.is_empty.ensures ∙ c.if-is_empty.false)

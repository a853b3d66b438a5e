use Rattle.std.proofs.Common.{sym}
use Rattle.hub_ask.proofs.Tellings.{is_counted}
use Rattle.hub_ask.proofs.outcome.has_count.Goals as goal

pub returns-then-count-gt0 : goal.returns-then-count-gt0
returns-then-count-gt0 c =
    is_counted c.args.text.now c.args.count c.spaces.result (sym c.if-is_empty.ensures) c.if-count-gt0.true c.spaces.ensures

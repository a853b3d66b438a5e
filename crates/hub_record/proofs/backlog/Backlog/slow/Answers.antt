use Rattle.std.proofs.Common.{arith}
use Rattle.hub_record.proofs.Slow.{slow_is_rest}
use Rattle.hub_record.proofs.backlog.Backlog.slow.Goals as goal

pub overflow_sub-result : goal.overflow_sub-result
overflow_sub-result c =
    let held = c.args.self.now in
    let rest = slow_is_rest held.room held.end held.cursors in
    let all = c.current.ensures in
    let some = c.active.ensures in
    omega arith

pub returns : goal.returns
returns c =
    let held = c.args.self.now in
    let rest = slow_is_rest held.room held.end held.cursors in
    let all = c.current.ensures in
    let some = c.active.ensures in
    omega arith

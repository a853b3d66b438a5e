use Rattle.std.proofs.Common.{◌-◌, ap, arith}
use Rattle.hub_record.specs.Backlog.{Held, lowest}
use Rattle.hub_record.proofs.backlog.Backlog.load.Goals as goal

pub returns : goal.returns
returns c =
    let low = c.self.invariant.lowest in
    let now = ap (λ (h : Held). h.end - lowest h) c.self.view_is in
    omega (arith, c.len.ensures)

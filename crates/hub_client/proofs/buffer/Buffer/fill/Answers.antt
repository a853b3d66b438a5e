use Rattle.std.proofs.Common.{◌≤◌, length, arith}
use Rattle.hub_client.specs.Pending.{pending}
use Rattle.hub_client.proofs.Moving.{stays, between_some}
use Rattle.hub_client.proofs.buffer.Buffer.fill.Goals as goal

pub returns-then-self-clause-ok : goal.returns-then-self-clause-ok
returns-then-self-clause-ok g c =
    let buffer = c.args.self.now in
    let long : 1 ≤ length (pending buffer) = between_some buffer.bytes.items buffer.start buffer.end c.if-self.true (omega arith) in
    (stays _ _ _ _ _, long, omega arith)

use Rattle.std.proofs.Common.{take}
use Rattle.std.specs.Io.KnownBytes.{Appends}
use Rattle.hub_ask.specs.Sending.{lines_of_requests}
use Rattle.hub_ask.specs.Waiting.{questions}
use Rattle.hub_ask.proofs.waiting.explain_each.Given as goal

-- the questions about the names so far were sent
abbrev pub invariant-names : goal.invariant-names
invariant-names g l = Appends (g.SW.Write.contents l.fn.client.sender) (g.SW.Write.contents l.client.sender) (lines_of_requests (questions l.want (λ name. name.now) (take l.text-index l.names)))

use Rattle.hub_commands.proofs.Listed.{AskedNames}
use Rattle.hub_commands.proofs.missing.names_there.Given as goal

-- some pages were asked for
abbrev pub invariant-replies : goal.invariant-replies
invariant-replies g l = AskedNames (g.SW.Write.contents l.fn.client.sender) (g.SW.Write.contents l.client.sender)

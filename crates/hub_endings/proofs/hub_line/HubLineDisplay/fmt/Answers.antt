use Rattle.hub_endings.proofs.hub_line.HubLineDisplay.fmt.Goals as goal

pub returns-in-Stopped-clause-writes : goal.returns-in-Stopped-clause-writes
returns-in-Stopped-clause-writes g c = rw c.in-Stopped.is (c.write.ensures.writes)

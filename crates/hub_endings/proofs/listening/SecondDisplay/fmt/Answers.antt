use Rattle.hub_endings.proofs.listening.SecondDisplay.fmt.Goals as goal

pub returns-clause-writes : goal.returns-clause-writes
returns-clause-writes g c = let h = simp c.in_radix.ensures at c.write.ensures.writes in rw c.in-Some.is h

use Rattle.hub_bench.proofs.policies.+beside.Given as goal

abbrev pub decreases-beside : goal.decreases-beside
decreases-beside g l = l.others

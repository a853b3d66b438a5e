use Rattle.hub_record.proofs.LimitsOf.{limits_of-numbers}
use Rattle.hub_record.proofs.limits.Limits.with.Goals as goal

pub returns-clause-one : goal.returns-clause-one
returns-clause-one c = limits_of-numbers _

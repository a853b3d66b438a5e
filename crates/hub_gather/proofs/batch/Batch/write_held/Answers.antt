use Rattle.std.proofs.Common.{◌≡◌, rules, subst}
use Rattle.hub_io.proofs.Outcomes.{OnErr-known}
use Rattle.hub_gather.specs.Steps.{AddsPart}
use Rattle.hub_gather.proofs.Passed.{out_part}
use Rattle.hub_gather.proofs.batch.Batch.write_held.Goals as goal

pub returns-in_err-write-clause-lost : goal.returns-in_err-write-clause-lost
returns-in_err-write-clause-lost g c =
    let held : c.deref.result.now ≡ c.args.self.now.held.items = search rules in
    OnErr-known _ (out_part _ _ (subst (AddsPart _ _) held c.in_err-write.ensures.part))

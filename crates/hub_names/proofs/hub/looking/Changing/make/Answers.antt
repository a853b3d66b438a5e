use Rattle.std.proofs.Common.{rules}
use Rattle.hub_names.proofs.Changes.{made_under}
use Rattle.hub_names.proofs.hub.looking.Changing.make.Goals as goal

pub returns-clause-ok : goal.returns-clause-ok
returns-clause-ok g c =
    let make = c.make-made.ensures in
    made_under c.args.kind c.args.limits c.args.notifies c.args.name.now (record { before = c.at-before.result; after = c.at-after.result }) c.deref_mut.result.now c.make-made.new.self
    c.make-made.result (search rules) (search rules) make.exists make.ok make.others make.last

use Rattle.std.proofs.Common.{refl}
use Rattle.hub_names.proofs.Changes.{tells_made, tells_unmade}
use Rattle.hub_names.proofs.fifodirs.Fifodirs.make.Goals as goal

pub returns-in-Ok : goal.returns-in-Ok
returns-in-Ok g c =
    let made = c.make_named-change in
    record {
      change = made.result.0;
      changed = made.ensures.at;
      tells = tells_made c.args.kind c.args.limits c.args.notifies c.args.name.now made.result.0 made.result.1 c.in-Ok.field-0 c.in-Ok.is made.ensures.ok;
      kept = refl;
    }

pub returns-in-Err : goal.returns-in-Err
returns-in-Err g c =
    let made = c.make_named-change in
    record {
      change = made.result.0;
      changed = made.ensures.at;
      tells = tells_unmade c.args.kind c.args.limits c.args.notifies c.args.name.now made.result.0 made.result.1 c.in-Err.error c.refusal_of_hub.result c.in-Err.is c.refusal_of_hub.ensures made.ensures.err;
      kept = refl;
    }

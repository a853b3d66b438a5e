use Rattle.hub_record.proofs.Copies.{appended_one}
use Rattle.hub_record.proofs.ends.append.Goals as goal

pub returns-then-letters-eq1-clause-events : goal.returns-then-letters-eq1-clause-events
returns-then-letters-eq1-clause-events c =
    let over = c.if-over-eq0.true in
    let one = c.if-letters-eq1.true in
    appended_one c.args.ring.now.items c.args.ring.now.capacity c.args.over c.args.who c.index-letters-0.result c.args.letters.now _ over one c.index-letters-0.is c.add.ensures

use Rattle.std.proofs.Common.{◌≡◌, Some, refl}
use Rattle.hub_record.specs.Kept.{Represents}
use Rattle.hub_record.specs.World.{World, Subscription, subscription_in}
use Rattle.hub_local.proofs.Hearing.{HasNext, held_next, taken_next, none_next}
use Rattle.hub_local.proofs.local_desk.listeners.hear_one.Goals as goal
use Rattle.hub_local.proofs.local_desk.listeners.hear_one.Goals.{After-feed, in-Some, in-None+in-Ok}

pub returns-in-Err : goal.returns-in-Err
returns-in-Err c = λ w s st is. none_next _ w c.args.id s is c.in-None.is c.in-Err.heard _ (c.in-Err.ensures w s st is)

-- the letter that is searched
next : (c : After-feed) (w : World) (s : Subscription) → Represents c.args.kept.now w → subscription_in w c.args.id ≡ Some s
    → HasNext c.args.hearing.now w c.args.id c.match-hearing.letter c.match-hearing.kept
next c w s st is = elim c.match-hearing.branch [
  | in-Some v ↦ held_next _ w c.args.id s is _ _ v.in-Some.is v.letter-is _ _ st v.kept-is
  | in-None+in-Ok v ↦ taken_next _ w c.args.id s is _ _ v.in-None.is v.letter-is _ _ (v.in-Ok.ensures w s st is) v.kept-is
]

pub returns-in-Ok-Quiet : goal.returns-in-Ok-Quiet
returns-in-Ok-Quiet c = λ w s st is.
    let n = next (goal.at.returns-in-Ok-Quiet c).After-feed w s st is in
    (c.match-hearing.letter, n.rest, n.first, (rw c.in-Ok-Quiet.field-0-is at c.in-Ok-Quiet.ensures), record { listener_is = refl; mode_is = refl; held_is = refl; represents = n.represents })

pub returns-in-Ok-Hit : goal.returns-in-Ok-Hit
returns-in-Ok-Hit c = λ w s st is.
    let n = next (goal.at.returns-in-Ok-Hit c).After-feed w s st is in
    (c.match-hearing.letter, n.rest, c.in-Ok-Hit.field-0-0, n.first, (rw c.in-Ok-Hit.field-0-is at c.in-Ok-Hit.ensures), record { listener_is = refl; mode_is = refl; held_is = refl; represents = n.represents })

pub returns-in-Err-Memory : goal.returns-in-Err-Memory
returns-in-Err-Memory c =
    absurd (rw c.in-Err-Memory.field-0-is at c.in-Err-Memory.ensures)

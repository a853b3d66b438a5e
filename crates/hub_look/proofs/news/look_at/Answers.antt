use Rattle.hub_look.specs.Follows.{manner_of}
use Rattle.hub_look.proofs.Asked.{looked_err, looked_ok}
use Rattle.hub_look.proofs.news.look_at.Goals as goal

pub returns-clause-ok : goal.returns-clause-ok
returns-clause-ok g c =
    looked_ok (manner_of c.args.following.now) c.args.turns c.args.followed.now _ _ _ _ _ c.take_and_write.result c.if-followed.false c.take_and_write.ensures.ok

pub returns-clause-err : goal.returns-clause-err
returns-clause-err g c =
    looked_err (manner_of c.args.following.now) c.args.turns c.args.followed.now _ _ _ _ _ c.take_and_write.result c.if-followed.false c.take_and_write.ensures.err

use Rattle.hub_look.specs.Follows.{manner_of}
use Rattle.hub_look.proofs.Takes.{ends_there, fails_so, goes_on, own_so, taken}
use Rattle.hub_look.proofs.taking.take_and_write.Goals as goal

pub returns-in_err-heard-clause-err : goal.returns-in_err-heard-clause-err
returns-in_err-heard-clause-err g c =
    own_so (manner_of c.args.following.now) c.args.turns c.args.followed.now _ _ _ _ _ c.in_err-heard.field-0.0 c.from_residual.ensures.1 c.in_err-heard.ensures.err

pub returns-in_err-write_reply-clause-err : goal.returns-in_err-write_reply-clause-err
returns-in_err-write_reply-clause-err g c =
    fails_so (manner_of c.args.following.now) c.args.turns c.args.followed.now _ _ _ _ _ _ c.in_err-write_reply.field-0.0 c.from_residual-in_err-write_reply.ensures.1 c.in_err-write_reply.ensures.err

pub returns-clause-ok : goal.returns-clause-ok
returns-clause-ok g c =
    let shows = c.reply-reply.ensures in
    goes_on (manner_of c.args.following.now) c.args.turns c.args.followed.now _ _ _ _ _ c.after_reply.result shows.reply (c.after_reply.ensures shows.reply shows.shows)
    (taken (manner_of c.args.following.now) c.args.turns _ _ _ _ _ _ _ _ _ _ c.args.followed.now _ _ _ shows c.in_ok-heard.ensures.ok (c.in_ok-write_reply.ensures.ok shows.reply shows.shows))

pub returns-clause-err : goal.returns-clause-err
returns-clause-err g c =
    let shows = c.reply-reply.ensures in
    ends_there (manner_of c.args.following.now) c.args.turns c.args.followed.now _ _ _ _ _ c.after_reply.result shows.reply (c.after_reply.ensures shows.reply shows.shows)
    (taken (manner_of c.args.following.now) c.args.turns _ _ _ _ _ _ _ _ _ _ c.args.followed.now _ _ _ shows c.in_ok-heard.ensures.ok (c.in_ok-write_reply.ensures.ok shows.reply shows.shows))

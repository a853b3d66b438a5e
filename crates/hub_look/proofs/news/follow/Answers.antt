use Rattle.hub_look.specs.Follows.{begins_by, manner_of, names_of}
use Rattle.hub_ask.specs.Streams.{streams}
use Rattle.hub_look.proofs.Asked.{fault_of_stop, outcome_of_stop}
use Rattle.hub_look.proofs.news.follow.Goals as goal

pub returns-in-Err-clause-ok : goal.returns-in-Err-clause-ok
returns-in-Err-clause-ok g c = outcome_of_stop (manner_of c.args.following.now) (begins_by c.args.following.now (streams g.SW.Write.contents g.SR.Read.remaining g.F.Write.contents g.F.Sink.faults c.args.peer.now.client c.args.notes.now)) (names_of c.args.following.now) _ _ _ c.outcome_of.result c.in-Err.stop c.outcome_of.ensures c.in-Err.ensures.err

pub returns-in-Err-clause-err : goal.returns-in-Err-clause-err
returns-in-Err-clause-err g c = fault_of_stop (manner_of c.args.following.now) (begins_by c.args.following.now (streams g.SW.Write.contents g.SR.Read.remaining g.F.Write.contents g.F.Sink.faults c.args.peer.now.client c.args.notes.now)) (names_of c.args.following.now) _ _ _ c.outcome_of.result c.in-Err.stop c.outcome_of.ensures c.in-Err.ensures.err

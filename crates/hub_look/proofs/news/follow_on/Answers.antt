use Rattle.hub_look.specs.Follows.{begins_by, manner_of, names_of}
use Rattle.hub_ask.specs.Streams.{streams}
use Rattle.hub_look.proofs.Asked.{ends_after, ends_before, ends_itself}
use Rattle.hub_look.proofs.news.follow_on.Goals as goal

pub returns-in_err-all-clause-err : goal.returns-in_err-all-clause-err
returns-in_err-all-clause-err g c = ends_before (manner_of c.args.following.now) (begins_by c.args.following.now (streams g.SW.Write.contents g.SR.Read.remaining g.F.Write.contents g.F.Sink.faults c.args.peer.now.client c.args.notes.now)) (names_of c.args.following.now) _ _ _ c.in_err-all.field-0.0 c.from_residual.ensures.1 c.in_err-all.ensures.err

pub returns-clause-ok : goal.returns-clause-ok
returns-clause-ok g c = ends_itself (manner_of c.args.following.now) (begins_by c.args.following.now (streams g.SW.Write.contents g.SR.Read.remaining g.F.Write.contents g.F.Sink.faults c.args.peer.now.client c.args.notes.now)) (names_of c.args.following.now) c.in_ok-all.all.items c.deref_mut.result.now c.look_on.new.all _ _ _ _ c.look_on.result c.deref_mut.ensures.value c.in_ok-all.ensures.names c.in_ok-all.ensures.ok c.look_on.ensures.ok

pub returns-clause-err : goal.returns-clause-err
returns-clause-err g c = ends_after (manner_of c.args.following.now) (begins_by c.args.following.now (streams g.SW.Write.contents g.SR.Read.remaining g.F.Write.contents g.F.Sink.faults c.args.peer.now.client c.args.notes.now)) (names_of c.args.following.now) c.in_ok-all.all.items c.deref_mut.result.now _ _ _ _ c.look_on.result c.deref_mut.ensures.value c.in_ok-all.ensures.names c.in_ok-all.ensures.ok c.look_on.ensures.err

use Rattle.hub_ask.specs.Streams.{streams}
use Rattle.hub_look.proofs.Asked.{begun_so, said_so}
use Rattle.hub_look.proofs.news.begin.Goals as goal

pub returns-clause-ok : goal.returns-clause-ok
returns-clause-ok g c =
    begun_so c.args.following.now _ (streams g.SW.Write.contents g.SR.Read.remaining g.F.Write.contents g.F.Sink.faults c.subscribe_to_all.new.peer.client c.subscribe_to_all.new.notes) _ _ _ c.in_ok-all.ensures.ok
    (said_so g.F.Write.contents g.F.Sink.faults c.args.following.now.is_again _ _ c.subscribe_to_all.new.notes c.say_again.new.notes c.say_again.ensures)

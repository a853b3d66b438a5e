use Rattle.std.proofs.Common.{suc, true, Some, Ok, Err, ap, refl, subst}
use Rattle.hub_look.specs.declared.following.Following.{Following}
use Rattle.hub_dialing.specs.Dialing.{dialing}
use Rattle.hub_showing.specs.Following.{FollowsThere, course}
use Rattle.hub_showing.proofs.Followings.{follows_in_vain, follows_on, tried_more}
use Rattle.hub_showing.proofs.following.follow_on.Goals as goal

pub connections-init : goal.connections-init
connections-init g c = (0, c.following_of-following.ensures, refl)

pub connections-preserved : goal.connections-preserved
connections-preserved g c = (
  suc c.connections.invariant.0,
  ap (λ (it : Following). record it { is_again = true }) c.connections.invariant.1,
  tried_more (dialing g.D.Dial.reaches g.D.Receiver.Read.remaining g.D.Sender.Write.contents) c.args.socket.now (record { contents = g.F.Write.contents; faults = g.F.Sink.faults }) c.args.wanted c.args.until c.connections.invariant.0 (record { dialer = c.args.dialer.now; notes = c.args.notes.now; held = g.W.Write.contents c.args.output.now }) (record { dialer = c.connections.dialer; notes = c.connections.notes; held = g.W.Write.contents c.connections.output }) (record { dialer = c.follow_there.new.dialer; notes = c.follow_there.new.notes; held = g.W.Write.contents c.follow_there.new.output }) c.connections.following c.connections.invariant.1 c.connections.invariant.2
      (subst (λ it. FollowsThere (course (dialing g.D.Dial.reaches g.D.Receiver.Read.remaining g.D.Sender.Write.contents) c.args.socket.now (record { contents = g.F.Write.contents; faults = g.F.Sink.faults }) c.connections.following c.args.wanted.is_patient) (record { dialer = c.connections.dialer; notes = c.connections.notes; held = g.W.Write.contents c.connections.output }) (record { dialer = c.follow_there.new.dialer; notes = c.follow_there.new.notes; held = g.W.Write.contents c.follow_there.new.output }) (Ok it)) c.in-None-2.is c.in_ok-outcome.ensures),
)

pub returns-in-Some-2 : goal.returns-in-Some-2
returns-in-Some-2 g c =
    follows_on (dialing g.D.Dial.reaches g.D.Receiver.Read.remaining g.D.Sender.Write.contents) c.args.socket.now (record { contents = g.F.Write.contents; faults = g.F.Sink.faults }) c.args.wanted c.args.until c.connections.invariant.0 (record { dialer = c.args.dialer.now; notes = c.args.notes.now; held = g.W.Write.contents c.args.output.now }) (record { dialer = c.connections.dialer; notes = c.connections.notes; held = g.W.Write.contents c.connections.output }) (record { dialer = c.follow_there.new.dialer; notes = c.follow_there.new.notes; held = g.W.Write.contents c.follow_there.new.output }) c.connections.following (Ok (Some c.in-Some-2.outcome)) c.requires c.connections.invariant.1 c.connections.invariant.2
    (subst (λ it. FollowsThere (course (dialing g.D.Dial.reaches g.D.Receiver.Read.remaining g.D.Sender.Write.contents) c.args.socket.now (record { contents = g.F.Write.contents; faults = g.F.Sink.faults }) c.connections.following c.args.wanted.is_patient) (record { dialer = c.connections.dialer; notes = c.connections.notes; held = g.W.Write.contents c.connections.output }) (record { dialer = c.follow_there.new.dialer; notes = c.follow_there.new.notes; held = g.W.Write.contents c.follow_there.new.output }) (Ok it)) c.in-Some-2.is c.in_ok-outcome.ensures)

pub returns-in_err-outcome : goal.returns-in_err-outcome
returns-in_err-outcome g c =
    follows_in_vain (dialing g.D.Dial.reaches g.D.Receiver.Read.remaining g.D.Sender.Write.contents) c.args.socket.now (record { contents = g.F.Write.contents; faults = g.F.Sink.faults }) c.args.wanted (record { dialer = c.args.dialer.now; notes = c.args.notes.now; held = g.W.Write.contents c.args.output.now }) (record { dialer = c.follow_there.new.dialer; notes = c.follow_there.new.notes; held = g.W.Write.contents c.follow_there.new.output }) _ c.in_err-outcome.field-0.0 c.from_residual.ensures.1
    (follows_on (dialing g.D.Dial.reaches g.D.Receiver.Read.remaining g.D.Sender.Write.contents) c.args.socket.now (record { contents = g.F.Write.contents; faults = g.F.Sink.faults }) c.args.wanted c.args.until c.connections.invariant.0 (record { dialer = c.args.dialer.now; notes = c.args.notes.now; held = g.W.Write.contents c.args.output.now }) (record { dialer = c.connections.dialer; notes = c.connections.notes; held = g.W.Write.contents c.connections.output }) (record { dialer = c.follow_there.new.dialer; notes = c.follow_there.new.notes; held = g.W.Write.contents c.follow_there.new.output }) c.connections.following (Err c.in_err-outcome.field-0.0) c.requires c.connections.invariant.1 c.connections.invariant.2
    c.in_err-outcome.ensures)

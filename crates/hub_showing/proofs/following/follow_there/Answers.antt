use Rattle.std.proofs.Common.{inl, inr, refl, ap, ◌∙◌}
use Rattle.hub_look.specs.Follows.{FailsToFollow, FollowsTo, begins_by, manner_of, names_of}
use Rattle.hub_dialing.specs.Dialing.{dialing}
use Rattle.hub_showing.specs.Following.{course}
use Rattle.hub_ask.specs.Streams.{Told}
use Rattle.hub_showing.proofs.Followings.{looked_there, same_streams, there_after, there_in_vain, unreached_so}
use Rattle.hub_showing.proofs.following.follow_there.Goals as goal

pub returns-in-Err : goal.returns-in-Err
returns-in-Err g c = unreached_so (course (dialing g.D.Dial.reaches g.D.Receiver.Read.remaining g.D.Sender.Write.contents) c.args.socket.now (record { contents = g.F.Write.contents; faults = g.F.Sink.faults }) c.args.following.now c.args.is_patient) (record { dialer = c.args.dialer.now; notes = c.args.notes.now; held = g.W.Write.contents c.args.output.now }) (record { dialer = c.reach.new.dialer; notes = c.args.notes.now; held = g.W.Write.contents c.args.output.now }) c.in-Err.fault c.unreached.result
    (record { millis = c.allowed.result; few = c.allowed.ensures; failed = c.in-Err.ensures.err; silent = record { notes = refl; held = refl } }) c.unreached.ensures

-- not all are there again
pub returns-in-Ok-false : goal.returns-in-Ok-false
returns-in-Ok-false g c = inr (
  c.in-Ok-false.ensures.again c.in-Ok-false.field-0-test,
  inr (
      looked_there (course (dialing g.D.Dial.reaches g.D.Receiver.Read.remaining g.D.Sender.Write.contents) c.args.socket.now (record { contents = g.F.Write.contents; faults = g.F.Sink.faults }) c.args.following.now c.args.is_patient) (record { dialer = c.args.dialer.now; notes = c.args.notes.now; held = g.W.Write.contents c.args.output.now }) (record { dialer = c.reach.new.dialer; notes = c.args.notes.now; held = g.W.Write.contents c.args.output.now }) c.allowed.result c.in-Ok.peer.begun.value.inner c.may_follow.new.peer.begun.value.inner c.may_follow.new.peer.client.receiver.inner c.may_follow.new.peer.client.sender.inner _ _ c.allowed.ensures c.in-Ok.ensures.ok
      (ap (λ it. it.value.inner) c.may_follow.ensures.begun) c.may_follow.new.peer.only (record { notes = refl; held = refl })
      ),
)

pub returns-in-Err-may_follow : goal.returns-in-Err-may_follow
returns-in-Err-may_follow g c = inr (
  c.in-Err-may_follow.error,
  refl,
  inr (
    c.in-Err-may_follow.ensures.again,
    looked_there (course (dialing g.D.Dial.reaches g.D.Receiver.Read.remaining g.D.Sender.Write.contents) c.args.socket.now (record { contents = g.F.Write.contents; faults = g.F.Sink.faults }) c.args.following.now c.args.is_patient) (record { dialer = c.args.dialer.now; notes = c.args.notes.now; held = g.W.Write.contents c.args.output.now }) (record { dialer = c.reach.new.dialer; notes = c.args.notes.now; held = g.W.Write.contents c.args.output.now }) c.allowed.result c.in-Ok.peer.begun.value.inner c.may_follow.new.peer.begun.value.inner c.may_follow.new.peer.client.receiver.inner c.may_follow.new.peer.client.sender.inner _ _ c.allowed.ensures c.in-Ok.ensures.ok
        (ap (λ it. it.value.inner) c.in-Err-may_follow.ensures.begun) c.may_follow.new.peer.only (record { notes = refl; held = refl }),
  ),
)

pub returns-in-Ok-follow : goal.returns-in-Ok-follow
returns-in-Ok-follow g c = inl (
    there_after (course (dialing g.D.Dial.reaches g.D.Receiver.Read.remaining g.D.Sender.Write.contents) c.args.socket.now (record { contents = g.F.Write.contents; faults = g.F.Sink.faults }) c.args.following.now c.args.is_patient) (record { dialer = c.args.dialer.now; notes = c.args.notes.now; held = g.W.Write.contents c.args.output.now }) (record { dialer = c.reach.new.dialer; notes = c.follow.new.notes; held = g.W.Write.contents c.follow.new.output })
    (Told (record { contents = g.F.Write.contents; faults = g.F.Sink.faults }) c.args.notes.now c.follow.new.notes (λ begun ended. FollowsTo (manner_of c.args.following.now) (begins_by c.args.following.now begun) (names_of c.args.following.now) ended (g.W.Write.contents c.args.output.now) (g.W.Write.contents c.follow.new.output) c.in-Ok-follow.outcome))
    c.allowed.result c.in-Ok.peer.begun.value.inner c.follow.new.peer.begun.value.inner c.follow.new.peer.client.receiver.inner c.follow.new.peer.client.sender.inner _ _ _ _ c.allowed.ensures c.in-Ok.ensures.ok
    (ap (λ it. it.value.inner) (c.in-Ok-follow.ensures.begun ∙ c.may_follow.ensures.begun)) c.follow.new.peer.only
    (λ first. same_streams g.D.Sender.Write.contents g.D.Receiver.Read.remaining (λ peer. peer.client.sender.inner) (λ peer. peer.client.receiver.inner) c.in-Ok.peer c.may_follow.new.peer (c.may_follow.ensures.first first))
    c.in-Ok-follow.ensures.ok
    )

pub returns : goal.returns
returns g c = inl (
  c.in_ok-wait_out-in-Err-follow.ensures.0,
  record {
    notes = c.follow.new.notes;
    error = c.in-Err-follow.error;
    fails = there_after (course (dialing g.D.Dial.reaches g.D.Receiver.Read.remaining g.D.Sender.Write.contents) c.args.socket.now (record { contents = g.F.Write.contents; faults = g.F.Sink.faults }) c.args.following.now c.args.is_patient) (record { dialer = c.args.dialer.now; notes = c.args.notes.now; held = g.W.Write.contents c.args.output.now }) (record { dialer = c.reach.new.dialer; notes = c.follow.new.notes; held = g.W.Write.contents c.follow.new.output })
        (Told (record { contents = g.F.Write.contents; faults = g.F.Sink.faults }) c.args.notes.now c.follow.new.notes (λ begun ended. FailsToFollow (manner_of c.args.following.now) (begins_by c.args.following.now begun) (names_of c.args.following.now) ended (g.W.Write.contents c.args.output.now) (g.W.Write.contents c.follow.new.output) c.in-Err-follow.error))
        c.allowed.result c.in-Ok.peer.begun.value.inner c.follow.new.peer.begun.value.inner c.follow.new.peer.client.receiver.inner c.follow.new.peer.client.sender.inner _ _ _ _ c.allowed.ensures c.in-Ok.ensures.ok
        (ap (λ it. it.value.inner) (c.in-Err-follow.ensures.begun ∙ c.may_follow.ensures.begun)) c.follow.new.peer.only
        (λ first. same_streams g.D.Sender.Write.contents g.D.Receiver.Read.remaining (λ peer. peer.client.sender.inner) (λ peer. peer.client.receiver.inner) c.in-Ok.peer c.may_follow.new.peer (c.may_follow.ensures.first first))
        c.in-Err-follow.ensures.err;
    ends = c.in_ok-wait_out-in-Err-follow.ensures.1;
    said = c.in_ok-wait_out-in-Err-follow.ensures.2;
  },
)

pub returns-in_err-wait_out-in-Err-follow : goal.returns-in_err-wait_out-in-Err-follow
returns-in_err-wait_out-in-Err-follow g c =
    there_in_vain (course (dialing g.D.Dial.reaches g.D.Receiver.Read.remaining g.D.Sender.Write.contents) c.args.socket.now (record { contents = g.F.Write.contents; faults = g.F.Sink.faults }) c.args.following.now c.args.is_patient) (record { dialer = c.args.dialer.now; notes = c.args.notes.now; held = g.W.Write.contents c.args.output.now })
    c.reach.new.dialer c.follow.new.notes c.wait_out.new.notes (g.W.Write.contents c.follow.new.output) c.from_residual.result c.in_err-wait_out-in-Err-follow.field-0.0 c.in-Err-follow.error
    c.from_residual.ensures.1 c.in_err-wait_out-in-Err-follow.ensures.0 c.in_err-wait_out-in-Err-follow.ensures.1
    (there_after (course (dialing g.D.Dial.reaches g.D.Receiver.Read.remaining g.D.Sender.Write.contents) c.args.socket.now (record { contents = g.F.Write.contents; faults = g.F.Sink.faults }) c.args.following.now c.args.is_patient) (record { dialer = c.args.dialer.now; notes = c.args.notes.now; held = g.W.Write.contents c.args.output.now }) (record { dialer = c.reach.new.dialer; notes = c.follow.new.notes; held = g.W.Write.contents c.follow.new.output })
    (Told (record { contents = g.F.Write.contents; faults = g.F.Sink.faults }) c.args.notes.now c.follow.new.notes (λ begun ended. FailsToFollow (manner_of c.args.following.now) (begins_by c.args.following.now begun) (names_of c.args.following.now) ended (g.W.Write.contents c.args.output.now) (g.W.Write.contents c.follow.new.output) c.in-Err-follow.error))
    c.allowed.result c.in-Ok.peer.begun.value.inner c.follow.new.peer.begun.value.inner c.follow.new.peer.client.receiver.inner c.follow.new.peer.client.sender.inner _ _ _ _ c.allowed.ensures c.in-Ok.ensures.ok
    (ap (λ it. it.value.inner) (c.in-Err-follow.ensures.begun ∙ c.may_follow.ensures.begun)) c.follow.new.peer.only
    (λ first. same_streams g.D.Sender.Write.contents g.D.Receiver.Read.remaining (λ peer. peer.client.sender.inner) (λ peer. peer.client.receiver.inner) c.in-Ok.peer c.may_follow.new.peer (c.may_follow.ensures.first first))
    c.in-Err-follow.ensures.err)

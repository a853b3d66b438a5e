use Rattle.std.proofs.Common.{◌≡◌, ℕ}
use Rattle.hub_dialing.specs.Dialing.{dialing}
use Rattle.hub_showing.specs.Following.{AreTried, following_wanted, is_some_of}
use Rattle.hub_showing.proofs.following.follow_on.Given as goal

-- some connections were tried, and the next one is to follow as it is wanted
abbrev pub invariant-connections : goal.invariant-connections
invariant-connections g l = (count : ℕ) × (l.following ≡ following_wanted l.fn.wanted l.fn.until (is_some_of count))
    × AreTried (dialing g.D.Dial.reaches g.D.Receiver.Read.remaining g.D.Sender.Write.contents) l.socket (record { contents = g.F.Write.contents; faults = g.F.Sink.faults }) l.fn.wanted l.fn.until count
    (record { dialer = l.fn.dialer; notes = l.fn.notes; held = g.W.Write.contents l.fn.output }) (record { dialer = l.dialer; notes = l.notes; held = g.W.Write.contents l.output })

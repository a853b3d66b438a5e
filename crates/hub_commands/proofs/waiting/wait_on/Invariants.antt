use Rattle.std.proofs.Common.{◌≡◌, ◌≤◌, true}
use Rattle.hub_requests.specs.declared.bounds.TheConstants.{MOST_TURNS}
use Rattle.hub_dialing.specs.Dialing.{dialing}
use Rattle.hub_commands.specs.Waiting.{IsAt, wishing}
use Rattle.hub_commands.proofs.waiting.wait_on.Given as goal

-- some tries came to nothing, and nothing of their replies was written
abbrev pub invariant-tries : goal.invariant-tries
invariant-tries g l = record {
  at : IsAt (dialing g.D.Dial.reaches g.D.Receiver.Read.remaining g.D.Sender.Write.contents) (wishing l.socket l.wish) l.first l.fn.dialer l.dialer l.turns;
  few : l.turns ≤ MOST_TURNS;
  output : l.output ≡ l.fn.output;
  quiet : l.wish.is_quiet ≡ true → (l.sayings.hub.is_said ≡ true) × (l.sayings.names.is_said ≡ true) × (l.notes ≡ l.fn.notes);
}

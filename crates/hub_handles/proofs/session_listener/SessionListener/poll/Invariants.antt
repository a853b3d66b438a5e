use Rattle.std.proofs.Common.{◌≡◌, ◌<◌, ◌⊎◌, length, None}
use Rattle.hub_letters.specs.declared.mode.TheConstants.{MOST_GATHERED}
use Rattle.hub_handles.specs.Hearings.{HearsQuietly}
use Rattle.hub_handles.proofs.session_listener.SessionListener.poll.Given as goal

abbrev pub invariant-loop : goal.invariant-loop
invariant-loop g l = HearsQuietly l.fn.self l.self × (length l.self.listener.gathered ≡ l.counter) × ((l.self.held ≡ None) ⊎ (l.counter < MOST_GATHERED))

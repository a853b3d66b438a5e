use Rattle.std.proofs.Common.{◌≡◌, ◌-◌, length, Some}
use Rattle.hub_record.specs.Kept.{Represents}
use Rattle.hub_record.specs.World.{World, Subscription, subscription_in}
use Rattle.hub_local.proofs.Hearing.{HeardPrefix}
use Rattle.hub_local.proofs.local_desk.listeners.hear.Given as goal

abbrev pub invariant-loop : goal.invariant-loop
invariant-loop l = (w : World) (s : Subscription) → Represents l.fn.kept w → subscription_in w l.id ≡ Some s
    → HeardPrefix l.fn.hearing w l.id (l.counter - length l.fn.hearing.listener.gathered) l.hearing l.kept

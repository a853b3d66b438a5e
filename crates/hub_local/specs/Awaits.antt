-- What an await answers: whether the next take or poll of its handle has something to do.
use Rattle.std.specs.Prelude.{ℕ, ◌||◌, Bool, false, if◌then◌else◌, nat_lt, length, Option, Some, None, is_some}
use Rattle.hub_record.specs.World.{World, Subscription, subscription_in}
use Rattle.hub_local.specs.Desks.{Desk, Answer}
use Rattle.hub_local.specs.Polls.{is_out}
use Rattle.hub_local.specs.declared.local_desk.LocalListener.{LocalListener}
use Rattle.hub_local.specs.declared.local_desk.Holding.{Holding}
use Rattle.hub_requests.specs.declared.reply.Reply.TheVariants.{Done, Late}

-- whether the listener holds a letter
abbrev pub holds_letter : Option LocalListener → Bool
holds_letter None = false
holds_letter (Some hearing) = is_some hearing.held

abbrev pub has_pending_for : World → Option Subscription → Bool
has_pending_for w None = false
has_pending_for w (Some s) = nat_lt s.next (length w.events)

-- whether an event is behind the subscription's cursor
abbrev pub has_pending : World → ℕ → Bool
has_pending w id = has_pending_for w (subscription_in w id)

-- whether a letter is held or an event is pending, or none will be: the fifodir is closed, or the subscription evicted
abbrev pub has_something : Holding → World → Bool
has_something h w = holds_letter h.hearing || w.closed || is_out w h.id || has_pending w h.id

-- nothing changes
abbrev pub await_answer : Desk → Holding → World → Answer
await_answer d h w = record { reply = if has_something h w then Done else Late; desk = d }

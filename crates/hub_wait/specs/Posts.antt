-- What the calls on a post make of it.
use Rattle.std.specs.Prelude.{ℕ, ◌≡◌, ◌≢◌, ◌+◌, ◌*◌, ◌<◌, ◌≤◌, ◌⊎◌, Bool, true, false, List, length, take}
use Rattle.std.specs.Arc.{arc_value}
use Rattle.hub_letters.specs.declared.want.Want.{Want}
use Rattle.hub_letters.specs.Flags.{flags_of}
use Rattle.hub_letters.specs.Wants.{is_met}
use Rattle.hub_record.specs.declared.Event.{Event}
use Rattle.hub_record.specs.declared.Status.{Status}
use Rattle.hub_record.specs.World.{letters}
use Rattle.hub_fifodir.specs.declared.fifodir.Fifodir.{Fifodir}
use Rattle.hub_fifodir.specs.Events.{StartsWith, is_closed}
use Rattle.hub_fifodir.specs.Passes.{IsTicketOf, ticket_mark, ticket_next, ticket_seen, ticket_closed, is_evicted_at}
use Rattle.hub_wait.specs.declared.post.Post.{Post}
use Rattle.hub_wait.specs.declared.post.TheConstants.{SLICE, SLICES}
use Rattle.hub_wait.specs.Watching.{Watching, new_watching}
use Rattle.hub_wait.specs.Histories.{ShowsFlagsOf, ShowsFallsOf, MissesNoFall, has_fall_between}

abbrev pub fifodir_of : Post → Fifodir
fifodir_of p = arc_value p.fifodir

-- the record, as far as its ticket has seen it
abbrev pub seen_of : Post → List Event
seen_of p = ticket_seen p.ticket

-- 0, or the number of the publisher that closed it, as far as its ticket has seen
abbrev pub closed_of : Post → ℕ
closed_of p = ticket_closed p.ticket

-- the status of what its ticket has seen
abbrev pub status_of : Post → Status
status_of p = record { number = length (seen_of p); flags = flags_of (letters (seen_of p)); closed = is_closed (closed_of p) }

abbrev pub mark_of : Post → ℕ
mark_of p = ticket_mark p.ticket

-- the number of the event that it takes next
abbrev pub next_of : Post → ℕ
next_of p = ticket_next p.ticket

abbrev pub watch_of : Post → Watching
watch_of p = p.watch

pub record HasOpened (fifodir : Fifodir) (want : Want) (notifies : Bool) (post : Post) : Type 0 where
  pub its_fifodir : fifodir_of post ≡ fifodir
  pub watch : watch_of post ≡ new_watching want notifies (status_of post)
  pub marked : mark_of post ≤ (watch_of post).at

-- It waits for the same, has lost nothing that it had seen, and shows the flags of what it has seen, up to its number. It fell
-- only if a letter falls since it began, and exactly then unless it is evicted.
pub record IsKept (old new : Post) : Type 0 where
  pub fifodir : fifodir_of new ≡ fifodir_of old
  pub mark : mark_of new ≡ mark_of old
  pub want : (watch_of new).want ≡ (watch_of old).want
  pub notifies : (watch_of new).notifies ≡ (watch_of old).notifies
  pub ended : (watch_of old).ended ≡ true → (watch_of new).ended ≡ true
  pub since : (watch_of new).since ≡ (watch_of old).since
  pub fell : (watch_of old).fell ≡ true → (watch_of new).fell ≡ true
  pub marked : mark_of new ≤ (watch_of new).since
  pub forward : (watch_of old).at ≤ (watch_of new).at
  pub taken : next_of old ≤ next_of new
  pub seen : StartsWith (seen_of new) (seen_of old)
  pub follows : ShowsFlagsOf (watch_of new) (letters (seen_of new))
  pub falls : ShowsFallsOf (watch_of new) (letters (seen_of new))
  pub misses_no_fall : is_evicted_at new.ticket (next_of new) ≡ false → MissesNoFall (watch_of new) (letters (seen_of new))

-- its ticket is evicted, and its watch goes on from the status of what it has seen
pub record IsRenewed (p : Post) : Type 0 where
  pub evicted : is_evicted_at p.ticket (next_of p) ≡ true
  pub renewed : (watch_of p).at ≡ length (seen_of p)
  pub ended : closed_of p ≢ 0 → (watch_of p).ended ≡ true

-- it took all that was seen, or as many slices as it may, or it is renewed; it is ended only at the end of a closed record,
-- and it is ended if it has seen the close and the slices that it took were full, fewer than it may take
pub record HasCaughtUp (old new : Post) : Type 0 where
  pub all : (next_of new ≡ length (seen_of new)) ⊎ ((next_of new ≡ next_of old + SLICE * SLICES) ⊎ IsRenewed new)
  pub ended_only : (watch_of new).ended ≡ true → (closed_of new ≢ 0) × ((watch_of new).at ≡ length (seen_of new))
  pub ended : closed_of new ≢ 0 → (slices : ℕ) → slices < SLICES → next_of new ≡ next_of old + SLICE * slices → (watch_of new).ended ≡ true

-- it took nothing; if no event is pending it took all that was seen before, and it is ended if the close was seen
pub record HasLooked (old : Post) (pending : Bool) (new : Post) : Type 0 where
  pub next : next_of new ≡ next_of old
  pub all : pending ≡ false → next_of new ≡ length (seen_of new)
  pub ended : pending ≡ false → closed_of new ≢ 0 → (watch_of new).ended ≡ true

-- the slice was full, or all that was seen is taken, or it is renewed; and it is ended if nothing was taken and the close
-- was seen
pub record HasTakenSlice (old : Post) (whole : Bool) (new : Post) : Type 0 where
  pub more : whole ≡ true → next_of new ≡ next_of old + SLICE
  pub fewer : whole ≡ false → next_of new < next_of old + SLICE
  pub all : whole ≡ false → (next_of new ≡ length (seen_of new)) ⊎ IsRenewed new
  pub ended : closed_of new ≢ 0 → next_of new ≡ next_of old → (watch_of new).ended ≡ true

-- Its fifodir had a wanted state after it subscribed: that of the first so many events of the record, as far as its ticket
-- has seen it. It fell if a letter falls among those of them that came since the watch began.
pub record HadState (p : Post) : Type 0 where
  pub of : IsTicketOf (fifodir_of p) p.ticket
  pub number : ℕ
  pub marked : mark_of p ≤ (watch_of p).since
  pub begun : (watch_of p).since ≤ number
  pub within : number ≤ length (seen_of p)
  pub met : is_met (watch_of p).want (flags_of (letters (take number (seen_of p)))) (watch_of p).notifies
      (has_fall_between (letters (seen_of p)) (watch_of p).since number) ≡ true

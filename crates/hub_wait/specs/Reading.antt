-- A watch and the ticket that feeds it.
use Rattle.std.specs.Prelude.{◌≡◌, ◌≢◌, ◌≤◌, true, false, length}
use Rattle.hub_record.specs.World.{letters}
use Rattle.hub_fifodir.specs.declared.ticket.Ticket.{Ticket}
use Rattle.hub_fifodir.specs.Passes.{ticket_mark, ticket_next, ticket_seen, ticket_closed, is_evicted_at}
use Rattle.hub_wait.specs.Watching.{Watching}
use Rattle.hub_wait.specs.Histories.{ShowsFlagsOf, ShowsFallsOf, MissesNoFall}

-- The watch shows what the ticket has seen, up to its number, and began behind the ticket's mark. Its number isn't below the
-- ticket's next. It misses no fall unless the ticket is evicted. It is ended only if the close is seen, and no event is past
-- its number.
pub record Reads (ticket : Ticket) (watch : Watching) : Type 0 where
  pub follows : ShowsFlagsOf watch (letters (ticket_seen ticket))
  pub falls : ShowsFallsOf watch (letters (ticket_seen ticket))
  pub misses_no_fall : is_evicted_at ticket (ticket_next ticket) ≡ false → MissesNoFall watch (letters (ticket_seen ticket))
  pub marked : ticket_mark ticket ≤ watch.since
  pub reached : ticket_next ticket ≤ watch.at
  pub ended : watch.ended ≡ true → (ticket_closed ticket ≢ 0) × (watch.at ≡ length (ticket_seen ticket))

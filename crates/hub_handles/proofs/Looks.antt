-- Looks at the front word by a subscription's ticket, and takes after them.
use Rattle.std.proofs.Common.{◌≡◌, ℕ, ◌+◌, ◌++◌, refl, Option, None, Some, subst, ap, ◌∙◌}
use Rattle.hub_requests.specs.declared.reply.Reply.{Reply}
use Rattle.hub_requests.specs.declared.reply.Reply.TheVariants as answer
use Rattle.hub_record.specs.declared.Taken.{Taken}
use Rattle.hub_record.specs.declared.Taken.TheVariants.{Got, Nothing, End, Evicted}
use Rattle.hub_record.specs.World.{letters}
use Rattle.hub_fifodir.specs.declared.ticket.Ticket.{Ticket}
use Rattle.hub_fifodir.specs.Events.{slice}
use Rattle.hub_fifodir.specs.Passes.{Finds, HasTaken, OnlyLooks, got, ticket_next, ticket_seen, ticket_sight, ticket_view}
use Rattle.hub_fifodir.specs.Steps.{Grows, got_of}
use Rattle.hub_fifodir.proofs.Meeting.{grows_self, grows_through}
use Rattle.hub_handles.specs.declared.subscription.Subscription.{Subscription}
use Rattle.hub_handles.specs.Taking.{HasLooked, IsSameTicket, Shows, TakesFrom, name_of}

-- ---- the same ticket

pub same_ticket : (s : Subscription) → IsSameTicket s s
same_ticket s = record { named = refl; dir = refl; id = refl; mark = refl; seen = grows_self (ticket_sight s.ticket) }

pub same_ticket_through : (a b c : Subscription) → IsSameTicket a b → IsSameTicket b c → IsSameTicket a c
same_ticket_through a b c p q = record {
  named = q.named ∙ p.named;
  dir = q.dir ∙ p.dir;
  id = q.id ∙ p.id;
  mark = q.mark ∙ p.mark;
  seen = grows_through (ticket_sight a.ticket) (ticket_sight b.ticket) (ticket_sight c.ticket) p.seen q.seen;
}

-- ---- looks

abbrev mark_at : Option (ℕ × ℕ) → ℕ
mark_at None = 0
mark_at (Some place) = place.0

abbrev next_at : Option (ℕ × ℕ) → ℕ
next_at None = 0
next_at (Some place) = place.1

pub looked : (old new : Subscription) → name_of new ≡ name_of old → new.dir ≡ old.dir → OnlyLooks (ticket_view old.ticket) (ticket_view new.ticket) → Grows (ticket_sight old.ticket) (ticket_sight new.ticket) → HasLooked old new
looked old new named dir looks seen = record {
  same = record { named = named; dir = dir; id = looks.number; mark = ap mark_at looks.place; seen = seen };
  next = ap next_at looks.place;
  got = ap got_of looks.role;
}

-- ---- a take after a look

-- what a ticket took after a look it took
took_after_look : (old looked new : Ticket) (max : ℕ) (taken : Taken) → ticket_next looked ≡ ticket_next old → got looked ≡ got old → HasTaken looked max taken new → HasTaken old max taken new
took_after_look old looked new max (Got n) next same took = (
  subst (λ k. Finds new k max (Got n)) next took.0,
  (took.1.0 ∙ ap (λ k. k + n) next, took.1.1 ∙ (λ i. same i ++ slice (next i) (next i + n) (ticket_seen new))),
)
took_after_look old looked new max Nothing next same took = (subst (λ k. Finds new k max Nothing) next took.0, (took.1.0 ∙ next, took.1.1 ∙ same))
took_after_look old looked new max End next same took = (subst (λ k. Finds new k max End) next took.0, (took.1.0 ∙ next, took.1.1 ∙ same))
took_after_look old looked new max Evicted next same took = (subst (λ k. Finds new k max Evicted) next took.0, (took.1.0 ∙ next, took.1.1 ∙ same))

shows_after_look : (old looked new : Ticket) (max : ℕ) (reply : Reply) → ticket_next looked ≡ ticket_next old → got looked ≡ got old → Shows max looked reply new → Shows max old reply new
shows_after_look old looked new max (answer.Got l) next same (n, took, are) =
    (n, took_after_look old looked new max (Got n) next same took, are ∙ ap (λ k. letters (slice k (k + n) (ticket_seen new))) next)
shows_after_look old looked new max answer.Nothing next same took = took_after_look old looked new max Nothing next same took
shows_after_look old looked new max answer.End next same took = took_after_look old looked new max End next same took
shows_after_look old looked new max answer.Evicted next same took = took_after_look old looked new max Evicted next same took
shows_after_look old looked new max reply next same shows = absurd shows

pub takes_after_look : (max : ℕ) (old looked new : Subscription) (reply : Reply) → HasLooked old looked → TakesFrom max looked reply new → TakesFrom max old reply new
takes_after_look max old looked new reply looks takes = record {
  same = same_ticket_through old looked new looks.same takes.same;
  shows = shows_after_look old.ticket looked.ticket new.ticket max reply looks.next looks.got takes.shows;
}

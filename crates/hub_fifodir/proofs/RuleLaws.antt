-- The laws of the rule.
use Rattle.std.proofs.Common.{◌≡◌, ℕ, ◌+◌, ◌-◌, ◌<◌, ◌≤◌, List, [], ◌∷◌, ◌++◌, length, take, drop, Bool, true, false, not, Option, Some, sym, refl, ap, ◌∙◌, subst, inl, inr, ⊎_elim, arith}
use Rattle.std.proofs.lemmas.Bool.{cases_lt}
use Rattle.std.proofs.lemmas.List.{take-append-drop, take-append-le}
use mathlib.Core.Option as maybe
use mathlib.Core.Path.{Path}
use lib.Seq.{drop-drop}
use Rattle.atomic_table.specs.Table.{State}
use Rattle.hub_record.specs.declared.Event.{Event}
use Rattle.hub_letters.specs.Flags.{flags_of}
use Rattle.hub_fifodir.specs.Events.{packed_word}
use Rattle.std.proofs.Common.{get_or}
use Rattle.std.proofs.lemmas.Bool.{ne_eqb}
use Rattle.hub_record.specs.World.{letters, World, current}
use Rattle.hub_record.specs.declared.limits.Limits.{Limits}
use Rattle.hub_record.proofs.Policies.{base_bound, hold_bound}
use Rattle.hub_fifodir.specs.declared.views.Rules.{Rules}
use Rattle.hub_fifodir.specs.declared.views.Book.{Book}
use Rattle.hub_fifodir.specs.declared.views.View.{View}
use Rattle.hub_fifodir.specs.declared.views.Taking.{Taking}
use Rattle.hub_fifodir.specs.declared.views.Writing.{Writing}
use Rattle.hub_fifodir.specs.declared.views.Role.{Role}
use Rattle.hub_fifodir.specs.declared.views.Role.TheVariants.{Ticket, Publisher}
use Rattle.hub_fifodir.specs.declared.locked.Locked.{Locked}
use Rattle.hub_fifodir.specs.Events.{StartsWith, slice}
use Rattle.hub_fifodir.specs.Locks.{RepresentsWorld, is_current}
use Rattle.hub_fifodir.specs.Rule.{LockState, free, held_by, home, RuleHolds, book_of, IsBehind, IsSound, IsHome, InRole, IsTicket, IsPublisher, IsLive, HasId, IsNumbered, cursor_of, cursor_if}
use Rattle.hub_fifodir.specs.Laws.{HasTicket, HasPublisher, IsFree, TicketsDiffer, PublishersDiffer, SeatsAgree, RecordIsHistory, TicketsHaveCursors, CursorsHaveTickets, ActiveHavePublishers, BaseIsBehind, HoldKeepsAll}
use Rattle.hub_fifodir.proofs.Looks.{its_seat}

abbrev S : Type 0
S = State (Option Locked) View

pub ticket_at : (rules : Rules) (s : S) (r : RuleHolds rules s) (j : ℕ) (t : Taking) (h : HasTicket s j t) → IsTicket r.a.book r.a.ticket_at j h.0.sight.seen t
ticket_at rules s r j t h = subst (InRole r.a.book r.a.log r.a.ticket_at r.a.writer_at j h.0.sight.seen) h.2 (its_seat book_of IsBehind IsSound rules s r j h.0 h.1 (subst IsLive (sym h.2) tt)).in_role

publisher_at : (rules : Rules) (s : S) (r : RuleHolds rules s) (j : ℕ) (p : Writing) (h : HasPublisher s j p) → IsPublisher r.a.book r.a.log r.a.writer_at j h.0.sight.seen p
publisher_at rules s r j p h = subst (InRole r.a.book r.a.log r.a.ticket_at r.a.writer_at j h.0.sight.seen) h.2 (its_seat book_of IsBehind IsSound rules s r j h.0 h.1 (subst IsLive (sym h.2) tt)).in_role

pub tickets_differ : TicketsDiffer
tickets_differ rules s j k t u r h i same = sym (ticket_at rules s r j t h).its_seat ∙ (ap r.a.ticket_at same ∙ (ticket_at rules s r k u i).its_seat)

pub publishers_differ : PublishersDiffer
publishers_differ rules s j k p q r h i same = sym (publisher_at rules s r j p h).its_seat ∙ (ap r.a.writer_at same ∙ (publisher_at rules s r k q i).its_seat)

-- ---- two prefixes of one list

shorter : (log s t : List Event) → StartsWith log s → StartsWith log t → length s ≤ length t → StartsWith t s
shorter log s t p q le = let n : ℕ = length s in
    let front : take (length s) t ≡ s = sym (take-append-le (length s) t q.0 le) ∙ ap (take (length s)) (sym q.1 ∙ p.1) ∙ take-append-le (length s) s p.0 (omega arith) ∙ whole s in
    (drop (length s) t, sym (take-append-drop (length s) t) ∙ ap (λ (l : List Event). l ++ drop (length s) t) front)
  where
    whole : (l : List Event) → take (length l) l ≡ l
    whole [] = refl
    whole (x ∷ xs) = ap (λ (l : List Event). x ∷ l) (whole xs)

pub seats_agree : SeatsAgree
seats_agree rules s j k v w r at at' live live' =
    let one = its_seat book_of IsBehind IsSound rules s r j v at live in let other = its_seat book_of IsBehind IsSound rules s r k w at' live' in
    ⊎_elim (λ (lt : length v.sight.seen < length w.sight.seen). inr (shorter r.a.log v.sight.seen w.sight.seen one.part.0 other.part.0 (omega arith)))
    (λ (le : length w.sight.seen ≤ length v.sight.seen). inl (shorter r.a.log w.sight.seen v.sight.seen other.part.0 one.part.0 le)) (cases_lt (length v.sight.seen) (length w.sight.seen))

-- ---- the value behind a free lock

abbrev at_home : List (maybe.Option (Option Locked)) → maybe.Option (Option Locked)
at_home [] = maybe.none
at_home (x ∷ xs) = x

same_value : (t : LockState Locked) (b : Locked) → Path (maybe.Option (Option Locked)) (home t) (maybe.some (Some b)) → Path (LockState Locked) t (free b)
same_value (free c) b e = ap free (inside c b (maybe.some-injective (Some c) (Some b) e))
  where
    inside : (c b : Locked) → Path (Option Locked) (Some c) (Some b) → c ≡ b
    inside c b p = cc
same_value (held_by j) b e = absurd (maybe.some-ne-none (Some b) (sym e))

home_behind : (rules : Rules) (s : S) (b : Locked) (r : RuleHolds rules s) → IsFree s b → IsBehind rules r.a.log r.a.mark b × (book_of b ≡ r.a.book)
home_behind rules s b r homes =
    let is = same_value r.a.lock b (ap at_home (sym r.homes_are ∙ homes)) in
    subst (λ (x : LockState Locked). IsHome book_of IsBehind IsSound rules r.a x s.views) is r.locked

book_behind : (rules : Rules) (s : S) (b : Locked) (r : RuleHolds rules s) → IsFree s b → book_of b ≡ r.a.book
book_behind rules s b r homes = (home_behind rules s b r homes).1

pub record_is_history : RecordIsHistory
record_is_history rules s b r homes = let h = (home_behind rules s b r homes).0 in (
  h.world,
  record {
    represents = h.for;
    kind = h.kind;
    limits = h.limits;
    front = ap (λ (l : List ℕ). get_or l 0 0) r.words_are ∙ (λ i. packed_word (length (sym h.events i)) (sym h.closed i) (flags_of (letters (sym h.events i))));
    seen = λ j v at live. subst (λ (l : List Event). StartsWith l v.sight.seen) (sym h.events) (its_seat book_of IsBehind IsSound rules s r j v at live).part.0;
    shut = λ j v at live closed. let t = (its_seat book_of IsBehind IsSound rules s r j v at live).part.1 closed in
        (t.0 ∙ sym h.events, h.closed ∙ ap not (ne_eqb r.a.mark 0 (λ z. closed (t.1 ∙ z))));
  },
)

pub tickets_have_cursors : TicketsHaveCursors
tickets_have_cursors rules s b j t r homes h stays =
    ap (λ (k : Book). cursor_of k.cursors t.id) (book_behind rules s b r homes) ∙ ((ticket_at rules s r j t h).cursor ∙ ap (λ g. cursor_if g t.next) stays)

-- the ticket of a seat that has an id
id_of : (i : ℕ) (role : Role) → HasId i role → (t : Taking) × (role ≡ Ticket t) × (t.id ≡ i)
id_of i (Ticket t) h = (t, refl, h)
id_of i role h = absurd h

number_of : (n : ℕ) (role : Role) → IsNumbered n role → (p : Writing) × (role ≡ Publisher p) × (p.number ≡ n)
number_of n (Publisher p) h = (p, refl, h)
number_of n role h = absurd h

cursor_shows : (gone : Bool) (next found : ℕ) → cursor_if gone next ≡ Some found → (next ≡ found) × (gone ≡ false)
cursor_shows true next found e = cc
cursor_shows false next found e = (cc, refl)

pub cursors_have_tickets : CursorsHaveTickets
cursors_have_tickets rules s b id next r homes at =
    let here : cursor_of r.a.book.cursors id ≡ Some next = sym (ap (λ (k : Book). cursor_of k.cursors id) (book_behind rules s b r homes)) ∙ at in
    let o = r.tickets id (r.bounded.cursors id next here) in let t = id_of id o.0.role o.2 in
    let h : HasTicket s (r.a.ticket_at id) t.0 = (o.0, o.1, t.1) in
    let seat = ticket_at rules s r (r.a.ticket_at id) t.0 h in
    let shown = cursor_shows t.0.gone t.0.next next (sym seat.cursor ∙ ap (cursor_of r.a.book.cursors) t.2 ∙ here) in
    (r.a.ticket_at id, t.0, h, t.2, shown.0, shown.1)

pub active_have_publishers : ActiveHavePublishers
active_have_publishers rules s b n r homes at =
    let here : is_current r.a.book.active n ≡ true = sym (ap (λ (k : Book). is_current k.active n) (book_behind rules s b r homes)) ∙ at in
    let o = r.writers n (r.bounded.active n here) in let p = number_of n o.0.role o.2 in
    let h : HasPublisher s (r.a.writer_at n) p.0 = (o.0, o.1, p.1) in
    let seat = publisher_at rules s r (r.a.writer_at n) p.0 h in
    (r.a.writer_at n, p.0, h, p.2, stays p.0.gone (sym seat.active ∙ ap (is_current r.a.book.active) p.2 ∙ here))
  where
    stays : (gone : Bool) → not gone ≡ true → gone ≡ false
    stays true e = cc
    stays false e = refl

-- the cursor of a current ticket, in the world
cursor_in : (rules : Rules) (s : S) (b : Locked) (w : World) (j : ℕ) (t : Taking) → RuleHolds rules s → IsFree s b → RepresentsWorld b w → HasTicket s j t → t.gone ≡ false → cursor_of (current w) t.id ≡ Some t.next
cursor_in rules s b w j t r homes represents h stays = ap (λ c. cursor_of c t.id) (sym represents.for.cursors) ∙ tickets_have_cursors rules s b j t r homes h stays

pub base_is_behind : BaseIsBehind
base_is_behind rules s b w j t r homes represents h stays up = base_bound w t.id t.next represents.for.world (cursor_in rules s b w j t r homes represents h stays) up

pub hold_keeps_all : HoldKeepsAll
hold_keeps_all rules s b w j t r homes represents hold h stays =
    let behind = (home_behind rules s b r homes).0 in
    let limits = sym represents.for.limits ∙ behind.for.for.limits ∙ behind.limits in
    hold_bound w t.id t.next represents.for.world (cursor_in rules s b w j t r homes represents h stays) (ap (λ (l : Limits). l.policy) limits ∙ hold)

-- ---- a ticket's events

pub since_mark : (mark next : ℕ) (seen : List Event) → mark ≤ next → slice mark next seen ++ drop next seen ≡ drop mark seen
since_mark mark next seen le = let k : ℕ = next - mark in let to : next ≡ mark + k = omega arith in
    ap (λ (l : List Event). slice mark next seen ++ l) (ap (λ (n : ℕ). drop n seen) to ∙ sym (drop-drop k mark seen)) ∙ take-append-drop k (drop mark seen)

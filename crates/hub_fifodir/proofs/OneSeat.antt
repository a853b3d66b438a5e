-- One seat under the rule.
use Rattle.std.proofs.Common.{◌≡◌, ◌≢◌, ℕ, List, ◌++◌, Option, Some, None, sym, refl, ap, ◌∙◌, subst, arith}
use mathlib.Core.Path.{Path}
use Rattle.hub_record.specs.declared.Event.{Event}
use Rattle.hub_fifodir.specs.declared.views.Rules.{Rules}
use Rattle.hub_fifodir.specs.declared.views.Book.{Book}
use Rattle.hub_fifodir.specs.declared.views.Sight.{Sight}
use Rattle.hub_fifodir.specs.declared.views.View.{View}
use Rattle.hub_fifodir.specs.declared.views.Role.{Role}
use Rattle.hub_fifodir.specs.declared.views.Role.TheVariants.{Ticket, Publisher, Spent}
use Rattle.hub_fifodir.specs.Rule.{LockState, free, held_by, Account, IsPart, IsPartIfAny, IsGiven, InRole, IsSeat, IsSeatOr, Holds, IsSane, sight, view, IsLive, IsNumbered}
use Rattle.hub_fifodir.specs.Steps.{Grows, GrowsIfAny, IsInBook}
use Rattle.hub_fifodir.proofs.Logs.{starts_self, starts_more, starts_length, slice_longer}

module _ {B : Type 0} (rules : Rules) (a : Account B) where
  pub part_whole : IsPart a.log a.mark (sight a.log a.mark)
  part_whole = (starts_self a.log, λ _. (refl, refl))

  pub live_seat : (j : ℕ) (v : View) (r : Role) → IsLive r → IsSeatOr rules a j v r → IsSeat rules a j v
  live_seat j v Spent l h = absurd l
  live_seat j v r l h = h

  pub seated : (j : ℕ) (v : View) (r : Role) → IsSeat rules a j v → IsSeatOr rules a j v r
  seated j v Spent h = tt
  seated j v r h = h

  pub renew_role : (j : ℕ) (s : Sight) (r : Role) → IsPart a.log a.mark s → InRole a.book a.log a.ticket_at a.writer_at j s.seen r → InRole a.book a.log a.ticket_at a.writer_at j a.log r
  renew_role j s (Ticket t) p h = let l = starts_length a.log s.seen p.0 in let m = h.sane in
      record { its_seat = h.its_seat; given = h.given; sane = (m.0, omega arith, m.2 ∙ sym (slice_longer t.mark t.next s.seen a.log p.0 m.0 m.1)); cursor = h.cursor }
  renew_role j s (Publisher p) q h = record { its_seat = h.its_seat; given = h.given; all = h.all; known = h.all; active = h.active }
  renew_role j s r p h = tt

  pub role_sane : (j : ℕ) (seen : List Event) (r : Role) → InRole a.book a.log a.ticket_at a.writer_at j seen r → IsSane seen r
  role_sane j s (Ticket t) h = h.sane
  role_sane j s (Publisher p) h = h.known
  role_sane j s r h = tt

  pub renew : (j : ℕ) (v : View) (held : Option Book) → IsSeat rules a j v → Holds rules a j (sight a.log a.mark) held → IsSeat rules a j (view v.rules (sight a.log a.mark) v.role held None)
  renew j v held h k = record { ruled = h.ruled; part = part_whole; met_part = tt; holds = k; in_role = renew_role j v.sight v.role h.part h.in_role }

  pub part_grows : (s : Sight) → IsPart a.log a.mark s → Grows s (sight a.log a.mark)
  part_grows s p = (p.0, λ n. let t = p.1 n in λ i. sight (sym t.0 i) (sym t.1 i))

  pub any_grows : (s : Option Sight) → IsPartIfAny a.log a.mark s → GrowsIfAny s (sight a.log a.mark)
  any_grows None p = tt
  any_grows (Some s) p = part_grows s p

  pub not_held : (b : B) (j : ℕ) (s : Sight) (held : Option Book) → a.lock ≡ free b → Holds rules a j s held → held ≡ None
  not_held b j s None is h = refl
  not_held b j s (Some k) is h = absurd (cc (h.0, is))

  pub held_none : (j : ℕ) (s : Sight) (held : Option Book) → held ≡ None → Holds rules a j s held
  held_none j s held e = subst (Holds rules a j s) (sym e) tt

  -- if another seat has the lock
  pub held_elsewhere : (i j : ℕ) (s : Sight) (held : Option Book) → i ≢ j → a.lock ≡ held_by i → Holds rules a j s held → held ≡ None
  held_elsewhere i j s None n is h = refl
  held_elsewhere i j s (Some k) n is h = absurd (n (same (sym is ∙ h.0)))
    where
      same : Path (LockState B) (held_by i) (held_by j) → i ≡ j
      same e = cc

pub numbered_live : (n : ℕ) (r : Role) → IsNumbered n r → IsLive r
numbered_live n (Publisher p) h = tt
numbered_live n r h = absurd h

module _ {B : Type 0} (rules : Rules) (a a' : Account B) where
  pub fits_map : (j : ℕ) (v : View) (r : Role) → (IsSeat rules a j v → IsSeat rules a' j v) → IsSeatOr rules a j v r → IsSeatOr rules a' j v r
  fits_map j v Spent f h = tt
  fits_map j v r f h = f h

-- a record that isn't closed grows, or is closed
pub part_longer : (log x : List Event) (s : Sight) → IsPart log 0 s → IsPart (log ++ x) 0 s
part_longer log x s p = (starts_more log x s.seen p.0, λ n. absurd (n (p.1 n).1))

pub any_longer : (log x : List Event) (s : Option Sight) → IsPartIfAny log 0 s → IsPartIfAny (log ++ x) 0 s
any_longer log x None p = tt
any_longer log x (Some s) p = part_longer log x s p

pub part_marked : (log : List Event) (m : ℕ) (s : Sight) → IsPart log 0 s → IsPart log m s
part_marked log m s p = (p.0, λ n. absurd (n (p.1 n).1))

pub any_marked : (log : List Event) (m : ℕ) (s : Option Sight) → IsPartIfAny log 0 s → IsPartIfAny log m s
any_marked log m None p = tt
any_marked log m (Some s) p = part_marked log m s p

pub number_given : (k : Book) (log : List Event) (f g : ℕ → ℕ) (j n : ℕ) (seen : List Event) (r : Role) → IsNumbered n r → InRole k log f g j seen r → IsGiven n k.numbers
number_given k log f g j n s (Publisher p) is h = subst (λ (m : ℕ). IsGiven m k.numbers) is h.given
number_given k log f g j n s r is h = absurd is

pub number_seat : (k : Book) (log : List Event) (f g : ℕ → ℕ) (j n : ℕ) (seen : List Event) (r : Role) → IsNumbered n r → InRole k log f g j seen r → g n ≡ j
number_seat k log f g j n s (Publisher p) is h = ap g (sym is) ∙ h.its_seat
number_seat k log f g j n s r is h = absurd is

pub in_book : (k : Book) (log : List Event) (f g : ℕ → ℕ) (j : ℕ) (seen : List Event) (r : Role) → InRole k log f g j seen r → IsInBook k r
in_book k log f g j s (Ticket t) h = (h.given, h.cursor)
in_book k log f g j s (Publisher p) h = (h.given, h.active)
in_book k log f g j s r h = tt

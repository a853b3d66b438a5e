-- The table at the start, and the step that takes the lock.
use Rattle.std.proofs.Common.{◌≡◌, ℕ, ◌<◌, ◌≤◌, List, [], ◌∷◌, set, get_or, Option, Some, None, sym, refl, ap, ◌∙◌, subst, inl, arith}
use mathlib.Core.Option as maybe
use mathlib.Core.Logic.{dite}
use native.Mathlib.Decide.{ℕ_discrete}
use lib.ListN.{get_elem?}
use Rattle.atomic_table.specs.Table.{State, Me, Act, step, keeps, takes, Allows, Valid, stepped, carried_after, opening}
use Rattle.atomic_table.proofs.Lists.{set_again}
use Rattle.hub_record.specs.declared.Event.{Event}
use Rattle.hub_record.specs.Runs.{by}
use Rattle.hub_fifodir.specs.declared.views.Rules.{Rules}
use Rattle.hub_fifodir.specs.declared.views.Book.{Book}
use Rattle.hub_fifodir.specs.declared.views.View.{View}
use Rattle.hub_fifodir.specs.Events.{front_word}
use Rattle.hub_fifodir.specs.Rule.{LockState, free, held_by, lock_word, home, Account, IsGiven, IsBounded, IsSeat, Fits, sight, view, visitor, IsLive, HasId, HasSeen, HasHeld, HasClosed, IsNumbered, IsHome}
use Rattle.hub_fifodir.specs.Steps.{locked_as, IsInBook, IsFresh}
use Rattle.hub_fifodir.proofs.Logs.{by_absent}
use Rattle.hub_fifodir.proofs.ViewLists.{all_set, at_kept, at_own, all_more, here}
use Rattle.hub_fifodir.proofs.OneSeat.{part_whole, seated, role_sane, renew, part_grows, any_grows, fits_map, not_held, held_none, numbered_live, number_given, in_book}
use Rattle.hub_fifodir.proofs.Looks.{Rule, its_seat, own_close}

module _ {B : Type 0} (book_of : B → Book) (represents : Rules → List Event → ℕ → B → Type 0) (sound : Rules → List Event → Type 0) (rules : Rules) where
  abbrev St : Type 0
  St = State (Option B) View

  abbrev R : St → Type 0
  R = Rule book_of represents sound rules

  abbrev Goes : St → ℕ → Me (Option B) View → Type 0
  Goes s id me = (w : View) × (x : Act (Option B)) × Valid s.homes me.1 x × R (stepped s 1 1 id me.1 w x)
      × locked_as book_of represents sound (step 1 1 1 0 maybe.none) me (get_or s.words 1 0) (w, carried_after me.1 x)

  none_given : (n most : ℕ) → most ≡ 0 → IsGiven n most → ⊥
  none_given n most e g = let a = g.0 in let b = g.1 in absurd (omega arith)

  pub begins : (b : B) → represents rules [] 0 b → sound rules [] → IsBounded (book_of b) → (book_of b).ids ≡ 0 → (book_of b).numbers ≡ 0 → R (opening (0 ∷ 0 ∷ []) (Some b ∷ []) (visitor rules [] 0))
  begins b fits ok bounded no_ids no_numbers = let a : Account B = record { log = []; mark = 0; book = book_of b; lock = free b; ticket_at = λ _. 0; writer_at = λ _. 0 } in
      record {
        a = a;
        words_are = refl;
        homes_are = refl;
        is_sound = ok;
        bounded = bounded;
        pending = λ _ i next e. omega arith;
        locked = (fits, refl);
        each = all_more (Fits rules a) [] (visitor rules [] 0) record { ruled = refl; part = part_whole rules a; met_part = tt; holds = tt; in_role = tt } (λ k u e. absurd (maybe.some-ne-none u (sym e)));
        reached = (0, visitor rules [] 0, refl, (tt, inl refl));
        closer = λ n. absurd (n refl);
        authors = λ k e at. absurd (maybe.some-ne-none e (sym at));
        tickets = λ i g. absurd (none_given i _ no_ids g);
        writers = λ n g. absurd (none_given n _ no_numbers g);
      }

  -- a number above the count has written nothing
  silent : (s : St) (r : R s) (n : ℕ) → r.a.book.numbers < n → by n r.a.log ≡ []
  silent s r n above = let a = r.a in by_absent n a.log (λ k e at same.
      let g = r.authors k e at in let le : e.who ≤ a.book.numbers = g.1 in
      let is : e.who ≡ n = same in let lt : a.book.numbers < n = above in omega arith)

  -- and it hasn't closed the record
  closed_by : (s : St) (r : R s) → r.a.mark ≤ r.a.book.numbers
  closed_by s r = let a = r.a in dite (ℕ_discrete a.mark 0)
      (λ zero. omega arith)
      (λ some_mark. let t = r.closer some_mark in
      let u = its_seat book_of represents sound rules s r (a.writer_at a.mark) t.0 t.1 (numbered_live a.mark t.0.role t.2.0) in
      (number_given a.book a.log a.ticket_at a.writer_at (a.writer_at a.mark) a.mark t.0.sight.seen t.0.role t.2.0 u.in_role).1)

  locks_at : (s : St) (r : R s) (id : ℕ) (me : Me (Option B) View) (t : LockState B) → r.a.lock ≡ t → IsLive me.0.role → me.0.held ≡ None → me.1 ≡ [] → get_elem? s.views id ≡ maybe.some me.0 → Goes s id me
  locks_at s r id me (free b) is live idle out at =
      let a = r.a in let v = me.0 in let seat = its_seat book_of represents sound rules s r id v at live in
      let w = view v.rules (sight a.log a.mark) v.role (Some (book_of b)) None in
      let known = subst (λ (t : LockState B). IsHome book_of represents sound rules a t s.views) is r.locked in
      let a' : Account B = record { log = a.log; mark = a.mark; book = a.book; lock = held_by id; ticket_at = a.ticket_at; writer_at = a.writer_at } in
      let seat0 = renew rules a id v None seat tt in
      let seat' : IsSeat rules a' id w = record { ruled = seat0.ruled; part = seat0.part; met_part = tt; holds = (refl, known.1, refl); in_role = seat0.in_role } in
      let zero_found : get_or s.words 1 0 ≡ 0 = ap (λ (l : List ℕ). get_or l 1 0) r.words_are ∙ ap lock_word is in (
        w,
        takes 0 (Some b),
        ap (λ (l : List (maybe.Option (Option B))). get_elem? l 0) r.homes_are ∙ ap (λ (t : LockState B). maybe.some (home t)) is,
        record {
          a = a';
          words_are = ap (λ (l : List ℕ). set l 1 1) r.words_are;
          homes_are = ap (λ (l : List (maybe.Option (Option B))). set l 0 maybe.none) r.homes_are;
          is_sound = r.is_sound;
          bounded = r.bounded;
          pending = r.pending;
          locked = at_own (HasHeld a.book) s.views id v w at (live, ap Some known.1);
          each = all_set (Fits rules a') s.views id w (seated rules a' id w v.role seat')
              (λ k u _ p. fits_map rules a a' k u u.role (λ h. record { ruled = h.ruled; part = h.part; met_part = h.met_part; holds = held_none rules a' k u.sight u.held (not_held rules a b k u.sight u.held is h.holds); in_role = h.in_role }) (r.each k u p));
          reached = here (HasSeen (sight a.log a.mark)) s.views id v w at (live, inl refl);
          closer = λ n. at_kept (HasClosed a.mark a.log) s.views id v w (a.writer_at a.mark) at (λ h. (h.0, refl)) (r.closer n);
          authors = r.authors;
          tickets = λ i g. at_kept (λ u. HasId i u.role) s.views id v w (a.ticket_at i) at (λ h. h) (r.tickets i g);
          writers = λ n g. at_kept (λ u. IsNumbered n u.role) s.views id v w (a.writer_at n) at (λ h. h) (r.writers n g);
        },
        (
          (λ _. (
            b,
            ap (λ (l : List (ℕ × Option B)). (0, Some b) ∷ l) out,
            record {
              renews = record {
                is = refl;
                grows = part_grows rules a v.sight seat.part;
                met = any_grows rules a v.met seat.met_part;
                own = own_close book_of represents sound rules s r id v at;
                sane = role_sane rules a id a.log v.role seat'.in_role;
                sound_is = subst (λ (x : Rules). sound x a.log) (sym seat.ruled) r.is_sound;
              };
              behind = subst (λ (x : Rules). represents x a.log a.mark b) (sym seat.ruled) known.0;
              fresh = subst (λ (x : Book). IsFresh x (sight a.log a.mark)) (sym known.1) record { silent = silent s r; closed = closed_by s r };
              in_book = subst (λ (x : Book). IsInBook x v.role) (sym known.1) (in_book a.book a.log a.ticket_at a.writer_at id v.sight.seen v.role seat.in_role);
              bounded = subst IsBounded (sym known.1) r.bounded;
            },
          )),
          λ n. absurd (n zero_found),
        ),
      )
  locks_at s r id me (held_by j) is live idle out at =
      let one : get_or s.words 1 0 ≡ 1 = ap (λ (l : List ℕ). get_or l 1 0) r.words_are ∙ ap lock_word is in
      let words : set s.words 1 1 ≡ s.words = ap (λ (l : List ℕ). set l 1 1) r.words_are ∙ sym (r.words_are ∙ ap (λ (t : LockState B). front_word r.a.log r.a.mark ∷ lock_word t ∷ []) is) in
      let views : set s.views id me.0 ≡ s.views = set_again s.views id me.0 at in (
        me.0,
        keeps,
        tt,
        subst R (λ i. record { words = sym words i; homes = s.homes; views = sym views i }) r,
        ((λ z. absurd (omega arith)), λ _. refl),
      )

  pub locks : (slots id : ℕ) (me : Me (Option B) View) → IsLive me.0.role → me.0.held ≡ None → me.1 ≡ [] → Allows R slots id me 1 (λ _. 1) (locked_as book_of represents sound (step slots 1 1 0 maybe.none) me)
  locks slots id me live idle out s r _ at _ = locks_at s r id me r.a.lock refl live idle out at

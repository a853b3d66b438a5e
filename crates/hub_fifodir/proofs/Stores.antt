-- The stores to the front word by a seat that has the lock: a message, and the closed mark.
use Rattle.std.proofs.Common.{◌≡◌, ◌≢◌, ℕ, List, [], ◌∷◌, ◌++◌, set, Option, Some, sym, refl, ap, ◌∙◌, subst, inl, ⊎_elim, append-nil}
use mathlib.Core.Option as maybe
use lib.ListN.{get_elem?}
use Rattle.atomic_table.specs.Table.{State, Me, keeps, Allows}
use Rattle.hub_record.specs.declared.Event.{Event}
use Rattle.hub_record.specs.World.{as_events}
use Rattle.hub_record.specs.Runs.{by}
use Rattle.hub_fifodir.specs.declared.views.Rules.{Rules}
use Rattle.hub_fifodir.specs.declared.views.Book.{Book}
use Rattle.hub_fifodir.specs.declared.views.Writing.{Writing}
use Rattle.hub_fifodir.specs.declared.views.Sight.{Sight}
use Rattle.hub_fifodir.specs.declared.views.View.{View}
use Rattle.hub_fifodir.specs.declared.views.Role.{Role}
use Rattle.hub_fifodir.specs.declared.views.Role.TheVariants.{Ticket, Publisher}
use Rattle.hub_fifodir.specs.Events.{front_word}
use Rattle.hub_fifodir.specs.Rule.{LockState, held_by, lock_word, Account, IsGiven, HoldsPending, IsPart, IsPartIfAny, InRole, IsSeat, Fits, Holds, sight, IsLive, HasId, HasSeen, HasHeld, HasClosed, At, IsNumbered, IsHome}
use Rattle.hub_fifodir.specs.Steps.{view_with_letters, closing}
use Rattle.hub_record.proofs.Since.{by-append}
use Rattle.hub_fifodir.proofs.Logs.{by_own, by_other, at_join, at_stamped}
use Rattle.hub_fifodir.proofs.ViewLists.{all_set, at_kept, at_own, here}
use Rattle.hub_fifodir.proofs.OneSeat.{part_whole, seated, fits_map, held_none, held_elsewhere, numbered_live, part_longer, any_longer, part_marked, any_marked}
use Rattle.hub_fifodir.proofs.Looks.{Rule, its_seat}

-- a publisher's own letters after a message of p: those of another publisher stay
role_longer : (book : Book) (log : List Event) (f g : ℕ → ℕ) (id j p : ℕ) (message : List ℕ) (seen : List Event) (r : Role) → j ≢ id → g p ≡ id → InRole book log f g j seen r → InRole book (log ++ as_events p message) f g j seen r
role_longer book log f g id j p message s (Ticket t) n own h = h
role_longer book log f g id j p message s (Publisher q) n own h =
    let other : p ≢ q.number = λ e. n (sym h.its_seat ∙ ap g (sym e) ∙ own) in
    record { its_seat = h.its_seat; given = h.given; all = by-append q.number log (as_events p message) ∙ ap (λ (l : List ℕ). by q.number log ++ l) (by_other q.number p message other) ∙ append-nil (by q.number log) ∙ h.all; known = h.known; active = h.active }
role_longer book log f g id j p message s r n own h = tt

module _ {B : Type 0} (book_of : B → Book) (represents : Rules → List Event → ℕ → B → Type 0) (sound : Rules → List Event → Type 0) (rules : Rules) where
  abbrev St : Type 0
  St = State (Option B) View

  abbrev R : St → Type 0
  R = Rule book_of represents sound rules

  -- what the seat that has the lock knows
  holding : (s : St) (r : R s) (id : ℕ) (v : View) (k : Book) → get_elem? s.views id ≡ maybe.some v → IsLive v.role → v.held ≡ Some k → (r.a.lock ≡ held_by id) × (k ≡ r.a.book) × (v.sight ≡ sight r.a.log r.a.mark)
  holding s r id v k at live is = let seat = its_seat book_of represents sound rules s r id v at live in subst (Holds rules r.a id v.sight) is seat.holds

  -- what a publisher knows that has the lock of a fifodir which isn't closed
  at_work : (s : St) (r : R s) (id : ℕ) (v : View) (p : Writing) (k : Book) → get_elem? s.views id ≡ maybe.some v → v.role ≡ Publisher p → v.held ≡ Some k → v.sight.closed ≡ 0
      → IsLive v.role × IsSeat rules r.a id v × ((r.a.lock ≡ held_by id) × (k ≡ r.a.book) × (v.sight ≡ sight r.a.log r.a.mark))
      × InRole r.a.book r.a.log r.a.ticket_at r.a.writer_at id v.sight.seen (Publisher p) × (v.sight.seen ≡ r.a.log) × (r.a.mark ≡ 0)
  at_work s r id v p k at role held unclosed =
      let live = numbered_live p.number v.role (subst (IsNumbered p.number) (sym role) refl) in
      let seat = its_seat book_of represents sound rules s r id v at live in
      let h = holding s r id v k at live held in
      let mine = subst (InRole r.a.book r.a.log r.a.ticket_at r.a.writer_at id v.sight.seen) role seat.in_role in
      (live, seat, h, mine, ap (λ (t : Sight). t.seen) h.2, sym (ap (λ (t : Sight). t.closed) h.2) ∙ unclosed)

  home_taken : (a : Account B) (id : ℕ) (views : List View) → a.lock ≡ held_by id → IsHome book_of represents sound rules a a.lock views → At views id (HasHeld a.book)
  home_taken a id views is h = subst (λ (t : LockState B). IsHome book_of represents sound rules a t views) is h

  pub publishes : (slots id : ℕ) (me : Me (Option B) View) (p : Writing) (message : List ℕ) (k : Book) (new : ℕ) → me.0.role ≡ Publisher p → me.0.held ≡ Some k → me.0.sight.closed ≡ 0
      → new ≡ front_word (me.0.sight.seen ++ as_events p.number message) 0 → sound me.0.rules (me.0.sight.seen ++ as_events p.number message)
      → HoldsPending me.0.rules (me.0.sight.seen ++ as_events p.number message) k
      → Allows R slots id me 0 (λ _. new) (λ _ m. (m.0 ≡ view_with_letters me.0 p message) × (m.1 ≡ me.1))
  publishes slots id me p message k new role held unclosed is ok few s r _ at _ =
      let a = r.a in let v = me.0 in let x = as_events p.number message in let w = view_with_letters v p message in
      let (live, seat, h, mine, seen, unmarked) = at_work s r id v p k at role held unclosed in
      let log : List Event = a.log ++ x in
      let a' : Account B = record { log = log; mark = 0; book = a.book; lock = a.lock; ticket_at = a.ticket_at; writer_at = a.writer_at } in
      let same : w.sight ≡ sight log 0 = λ i. sight (seen i ++ x) (unclosed i) in
      let grew : by p.number log ≡ p.mine ++ message = by-append p.number a.log x ∙ (λ i. mine.all i ++ by_own p.number message i) in
      let seat' : IsSeat rules a' id w = record {
        ruled = seat.ruled;
        part = subst (IsPart log 0) (sym same) (part_whole rules a');
        met_part = any_longer a.log x v.met (subst (λ (m : ℕ). IsPartIfAny a.log m v.met) unmarked seat.met_part);
        holds = subst (Holds rules a' id w.sight) (sym held) (h.0, h.1, same);
        in_role = record { its_seat = mine.its_seat; given = mine.given; all = grew; known = ap (λ (l : List Event). by p.number (l ++ x)) seen ∙ grew; active = mine.active };
      } in
      let word : new ≡ front_word log 0 = is ∙ ap (λ (l : List Event). front_word (l ++ x) 0) seen in (
        w,
        keeps,
        tt,
        record {
          a = a';
          words_are = ap (λ (l : List ℕ). set l 0 new) r.words_are ∙ ap (λ (n : ℕ). n ∷ lock_word a.lock ∷ []) word;
          homes_are = r.homes_are;
          is_sound = subst (λ (x : Rules). sound x log) seat.ruled (subst (λ (l : List Event). sound v.rules (l ++ x)) seen ok);
          bounded = r.bounded;
          pending = subst (λ (y : Rules). HoldsPending y log a.book) seat.ruled
              (subst (λ (l : List Event). HoldsPending v.rules (l ++ x) a.book) seen (subst (λ (b : Book). HoldsPending v.rules (v.sight.seen ++ x) b) h.1 few));
          locked = subst (λ (t : LockState B). IsHome book_of represents sound rules a' t (set s.views id w)) (sym h.0) (at_kept (HasHeld a.book) s.views id v w id at (λ e. (tt, e.1)) (home_taken a id s.views h.0 r.locked));
          each = all_set (Fits rules a') s.views id w (seated rules a' id w w.role seat')
              (λ j u n q. fits_map rules a a' j u u.role (λ f. record {
                ruled = f.ruled;
                part = part_longer a.log x u.sight (subst (λ (m : ℕ). IsPart a.log m u.sight) unmarked f.part);
                met_part = any_longer a.log x u.met (subst (λ (m : ℕ). IsPartIfAny a.log m u.met) unmarked f.met_part);
                holds = held_none rules a' j u.sight u.held (held_elsewhere rules a id j u.sight u.held (λ e. n (sym e)) h.0 f.holds);
                in_role = role_longer a.book a.log a.ticket_at a.writer_at id j p.number message u.sight.seen u.role n mine.its_seat f.in_role;
              }) (r.each j u q));
          reached = here (HasSeen (sight log 0)) s.views id v w at (tt, inl same);
          closer = λ n. absurd (n refl);
          authors = λ j e q. ⊎_elim
              (λ (t : get_elem? a.log j ≡ maybe.some e). r.authors j e t)
              (λ (t : (i : ℕ) × (get_elem? x i ≡ maybe.some e)). subst (λ (n : ℕ). IsGiven n a.book.numbers) (sym (at_stamped p.number message t.0 e t.1)) mine.given)
              (at_join a.log x j e q);
          tickets = λ i g. at_kept (λ u. HasId i u.role) s.views id v w (a.ticket_at i) at (λ t. absurd (subst (HasId i) role t)) (r.tickets i g);
          writers = λ n g. at_kept (λ u. IsNumbered n u.role) s.views id v w (a.writer_at n) at (λ t. subst (IsNumbered n) role t) (r.writers n g);
        },
        (refl, refl),
      )

  pub closes : (slots id : ℕ) (me : Me (Option B) View) (p : Writing) (k : Book) (new : ℕ) → me.0.role ≡ Publisher p → me.0.held ≡ Some k → me.0.sight.closed ≡ 0
      → new ≡ front_word me.0.sight.seen p.number
      → Allows R slots id me 0 (λ _. new) (λ _ m. (m.0 ≡ closing me.0 p) × (m.1 ≡ me.1))
  closes slots id me p k new role held unclosed is s r _ at _ =
      let a = r.a in let v = me.0 in let w = closing v p in
      let (live, seat, h, mine, seen, unmarked) = at_work s r id v p k at role held unclosed in
      let a' : Account B = record { log = a.log; mark = p.number; book = a.book; lock = a.lock; ticket_at = a.ticket_at; writer_at = a.writer_at } in
      let same : w.sight ≡ sight a.log p.number = ap (λ (l : List Event). sight l p.number) seen in
      let seat' : IsSeat rules a' id w = record {
        ruled = seat.ruled;
        part = subst (IsPart a.log p.number) (sym same) (part_whole rules a');
        met_part = any_marked a.log p.number v.met (subst (λ (m : ℕ). IsPartIfAny a.log m v.met) unmarked seat.met_part);
        holds = subst (Holds rules a' id w.sight) (sym held) (h.0, h.1, same);
        in_role = seat.in_role;
      } in
      let word : new ≡ front_word a.log p.number = is ∙ ap (λ (l : List Event). front_word l p.number) seen in (
        w,
        keeps,
        tt,
        record {
          a = a';
          homes_are = r.homes_are;
          is_sound = r.is_sound;
          bounded = r.bounded;
          pending = r.pending;
          authors = r.authors;
          words_are = ap (λ (l : List ℕ). set l 0 new) r.words_are ∙ ap (λ (n : ℕ). n ∷ lock_word a.lock ∷ []) word;
          locked = subst (λ (t : LockState B). IsHome book_of represents sound rules a' t (set s.views id w)) (sym h.0) (at_kept (HasHeld a.book) s.views id v w id at (λ e. e) (home_taken a id s.views h.0 r.locked));
          each = all_set (Fits rules a') s.views id w (seated rules a' id w w.role seat')
              (λ j u n q. fits_map rules a a' j u u.role (λ f. record {
                ruled = f.ruled;
                part = part_marked a.log p.number u.sight (subst (λ (m : ℕ). IsPart a.log m u.sight) unmarked f.part);
                met_part = any_marked a.log p.number u.met (subst (λ (m : ℕ). IsPartIfAny a.log m u.met) unmarked f.met_part);
                holds = held_none rules a' j u.sight u.held (held_elsewhere rules a id j u.sight u.held (λ e. n (sym e)) h.0 f.holds);
                in_role = f.in_role;
              }) (r.each j u q));
          reached = here (HasSeen (sight a.log p.number)) s.views id v w at (live, inl same);
          closer = λ n. subst (λ (i : ℕ). At (set s.views id w) i (HasClosed p.number a.log)) (sym mine.its_seat)
              (at_own (HasClosed p.number a.log) s.views id v w at (subst (IsNumbered p.number) (sym role) refl, same));
          tickets = λ i g. at_kept (λ u. HasId i u.role) s.views id v w (a.ticket_at i) at (λ t. t) (r.tickets i g);
          writers = λ n g. at_kept (λ u. IsNumbered n u.role) s.views id v w (a.writer_at n) at (λ t. t) (r.writers n g);
        },
        (refl, refl),
      )

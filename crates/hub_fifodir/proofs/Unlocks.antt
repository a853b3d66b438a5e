-- The store that releases the lock: the view has a role that may have changed, and the locked value is back in its
-- slot.
use Rattle.std.proofs.Common.{◌≡◌, ◌≢◌, ◌⊎◌, ℕ, ◌<◌, ◌≤◌, cond, List, [], ◌∷◌, set, Option, Some, sym, refl, ap, ◌∙◌, subst, inl, ⊎_elim, arith, eq-eqb, ne_eqb}
use mathlib.Core.Option as maybe
use mathlib.Core.Logic.{dite}
use native.Mathlib.Decide.{ℕ_discrete}
use Rattle.std.proofs.lemmas.Bool.{cases_lt}
use lib.ListN.{get_elem?}
use Rattle.atomic_table.specs.Table.{State, Me, gives, Allows, rest, put_back}
use Rattle.hub_record.specs.declared.Event.{Event}
use Rattle.hub_fifodir.specs.declared.views.Rules.{Rules}
use Rattle.hub_fifodir.specs.declared.views.Book.{Book}
use Rattle.hub_fifodir.specs.declared.views.Sight.{Sight}
use Rattle.hub_fifodir.specs.declared.views.View.{View}
use Rattle.hub_fifodir.specs.declared.views.Role.{Role}
use Rattle.hub_fifodir.specs.declared.views.Role.TheVariants.{Ticket, Publisher}
use Rattle.hub_fifodir.specs.Locks.{is_current}
use Rattle.hub_fifodir.specs.Rule.{free, Account, IsGiven, HoldsPending, InRole, IsSeat, Fits, Holds, sight, resting, HasId, HasSeen, HasClosed, At, IsNumbered, cursor_of}
use Rattle.hub_fifodir.specs.Steps.{with_value_at, Changes}
use Rattle.hub_fifodir.proofs.ViewLists.{all_set, at_kept, at_own, here}
use Rattle.hub_fifodir.proofs.OneSeat.{seated, fits_map, held_none, held_elsewhere, numbered_live, number_given}
use Rattle.hub_fifodir.proofs.Looks.{Rule, its_seat}

put_new : (f : ℕ → ℕ) (n j : ℕ) → with_value_at f n j n ≡ j
put_new f n j = ap (λ b. cond b j (f n)) (eq-eqb n n refl)

put_else : (f : ℕ → ℕ) (n0 j n : ℕ) → n ≢ n0 → with_value_at f n0 j n ≡ f n
put_else f n0 j n ne = ap (λ b. cond b j (f n)) (ne_eqb n n0 ne)

-- if n0 wasn't given before, or is the seat's own, all numbers that were given keep their seats
put_same : (f : ℕ → ℕ) (n0 j most n : ℕ) → (most < n0) ⊎ (f n0 ≡ j) → n ≤ most → with_value_at f n0 j n ≡ f n
put_same f n0 j most n own le = dite (ℕ_discrete n n0)
    (λ same. ⊎_elim (λ (lt : most < n0). absurd (omega arith)) (λ (e : f n0 ≡ j). ap (with_value_at f n0 j) same ∙ (put_new f n0 j ∙ sym e) ∙ ap f (sym same)) own)
    (λ other. put_else f n0 j n other)

-- an n that another seat has isn't n0
apart : (f : ℕ → ℕ) (n0 j k most n : ℕ) → (most < n0) ⊎ (f n0 ≡ j) → n ≤ most → f n ≡ k → k ≢ j → n ≢ n0
apart f n0 j k most n own le at ne same = ⊎_elim (λ (lt : most < n0). absurd (omega arith)) (λ (e : f n0 ≡ j). absurd (ne (sym at ∙ (ap f same ∙ e)))) own

given_more : (n most more : ℕ) → most ≤ more → IsGiven n most → IsGiven n more
given_more n most more up g = (g.0, let a = g.1 in omega arith)

role_ported : (k k' : Book) (log : List Event) (f g : ℕ → ℕ) (i0 n0 id j : ℕ) (seen : List Event) (r : Role) → k.ids ≤ k'.ids → k.numbers ≤ k'.numbers
    → ((i : ℕ) → i ≢ i0 → cursor_of k'.cursors i ≡ cursor_of k.cursors i) → ((n : ℕ) → n ≢ n0 → is_current k'.active n ≡ is_current k.active n)
    → (k.ids < i0) ⊎ (f i0 ≡ id) → (k.numbers < n0) ⊎ (g n0 ≡ id) → j ≢ id → InRole k log f g j seen r → InRole k' log (with_value_at f i0 id) (with_value_at g n0 id) j seen r
role_ported k k' log f g i0 n0 id j s (Ticket t) iu nu cs ss oi on ne h =
    record { its_seat = put_same f i0 id k.ids t.id oi h.given.1 ∙ h.its_seat; given = given_more t.id k.ids k'.ids iu h.given; sane = h.sane; cursor = cs t.id (apart f i0 id j k.ids t.id oi h.given.1 h.its_seat ne) ∙ h.cursor }
role_ported k k' log f g i0 n0 id j s (Publisher p) iu nu cs ss oi on ne h =
    record { its_seat = put_same g n0 id k.numbers p.number on h.given.1 ∙ h.its_seat; given = given_more p.number k.numbers k'.numbers nu h.given; all = h.all; known = h.known; active = ss p.number (apart g n0 id j k.numbers p.number on h.given.1 h.its_seat ne) ∙ h.active }
role_ported k k' log f g i0 n0 id j s r iu nu cs ss oi on ne h = tt

-- what a seat shows of itself, after `with_value_at` has given it its id and its number
own_ported : (k : Book) (log : List Event) (f g : ℕ → ℕ) (i0 n0 id : ℕ) (seen : List Event) (r : Role) → (k.ids < i0) ⊎ (f i0 ≡ id) → (k.numbers < n0) ⊎ (g n0 ≡ id)
    → InRole k log f g id seen r → InRole k log (with_value_at f i0 id) (with_value_at g n0 id) id seen r
own_ported k log f g i0 n0 id s (Ticket t) oi on h = record { its_seat = put_same f i0 id k.ids t.id oi h.given.1 ∙ h.its_seat; given = h.given; sane = h.sane; cursor = h.cursor }
own_ported k log f g i0 n0 id s (Publisher p) oi on h = record { its_seat = put_same g n0 id k.numbers p.number on h.given.1 ∙ h.its_seat; given = h.given; all = h.all; known = h.known; active = h.active }
own_ported k log f g i0 n0 id s r oi on h = tt

-- what was given has its seat, and what is given now has this one
owners : (P : ℕ → View → Type 0) (views : List View) (f : ℕ → ℕ) (n0 id most more : ℕ) (v w : View) → get_elem? views id ≡ maybe.some v
    → (most < n0) ⊎ (f n0 ≡ id) → ((n : ℕ) → P n v → P n w) → ((n : ℕ) → most < n → n ≤ more → (n ≡ n0) × P n w)
    → ((n : ℕ) → IsGiven n most → At views (f n) (P n)) → (n : ℕ) → IsGiven n more → At (set views id w) (with_value_at f n0 id n) (P n)
owners P views f n0 id most more v w at own keep new old n g = ⊎_elim
    (λ (above : most < n). let t = new n above g.1 in
    subst (λ (i : ℕ). At (set views id w) i (P n)) (sym (ap (with_value_at f n0 id) t.0 ∙ put_new f n0 id)) (at_own (P n) views id v w at t.1))
    (λ (le : n ≤ most). subst (λ (i : ℕ). At (set views id w) i (P n)) (sym (put_same f n0 id most n own le)) (at_kept (P n) views id v w (f n) at (keep n) (old n (g.0, le))))
    (cases_lt most n)

module _ {B : Type 0} (book_of : B → Book) (represents : Rules → List Event → ℕ → B → Type 0) (sound : Rules → List Event → Type 0) (rules : Rules) where
  abbrev St : Type 0
  St = State (Option B) View

  abbrev R : St → Type 0
  R = Rule book_of represents sound rules

  pub unlocks : (slots id : ℕ) (me : Me (Option B) View) (k : Book) (b : B) (r' : Role) (i0 n0 : ℕ) → me.0.held ≡ Some k → me.1 ≡ (0, Some b) ∷ []
      → represents me.0.rules me.0.sight.seen me.0.sight.closed b → Changes me.0.sight.seen me.0.role r' k (book_of b) i0 n0
      → HoldsPending me.0.rules me.0.sight.seen (book_of b)
      → Allows R slots id me 1 (λ _. 0) (λ _ m. (m.0 ≡ resting me.0.rules me.0.sight r') × (m.1 ≡ []))
  unlocks slots id me k b r' i0 n0 held out fits c few s r _ at _ =
      let a = r.a in let v = me.0 in let w = resting v.rules v.sight r' in
      let seat = its_seat book_of represents sound rules s r id v at c.live in
      let h = subst (Holds rules a id v.sight) held seat.holds in
      let seen : v.sight.seen ≡ a.log = ap (λ (t : Sight). t.seen) h.2 in
      let closed : v.sight.closed ≡ a.mark = ap (λ (t : Sight). t.closed) h.2 in
      let k' : Book = book_of b in
      let f' : ℕ → ℕ = with_value_at a.ticket_at i0 id in let g' : ℕ → ℕ = with_value_at a.writer_at n0 id in
      let a' : Account B = record { log = a.log; mark = a.mark; book = k'; lock = free b; ticket_at = f'; writer_at = g' } in
      let was = subst (λ (l : List Event). InRole k l a.ticket_at a.writer_at id v.sight.seen v.role) (sym seen) (subst (λ (x : Book). InRole x a.log a.ticket_at a.writer_at id v.sight.seen v.role) (sym h.1) seat.in_role) in
      let oi = c.own_id a.ticket_at a.writer_at id was in
      let on = c.own_number a.ticket_at a.writer_at id was in
      let now = c.fits f' g' id (own_ported k v.sight.seen a.ticket_at a.writer_at i0 n0 id v.sight.seen v.role oi on was) (put_new a.ticket_at i0 id) (put_new a.writer_at n0 id) in
      let seat' : IsSeat rules a' id w = record { ruled = seat.ruled; part = seat.part; met_part = tt; holds = tt; in_role = subst (λ (l : List Event). InRole k' l f' g' id v.sight.seen r') seen now } in
      let by_k : (n : ℕ) → IsGiven n a.book.numbers → IsGiven n k.numbers = λ n g. subst (λ (x : Book). IsGiven n x.numbers) (sym h.1) g in
      let moved : (n : ℕ) → n ≤ k.numbers → a.writer_at n ≡ g' n = λ n le. sym (put_same a.writer_at n0 id k.numbers n on le) in (
        w,
        gives,
        tt,
        record {
          a = a';
          words_are = ap (λ (l : List ℕ). set l 1 0) r.words_are;
          homes_are = ap (put_back s.homes) out ∙ ap (λ (l : List (maybe.Option (Option B))). set l 0 (maybe.some (Some b))) r.homes_are;
          is_sound = r.is_sound;
          bounded = c.bounded;
          pending = subst (λ (x : Rules). HoldsPending x a.log k') seat.ruled (subst (λ (l : List Event). HoldsPending v.rules l k') seen few);
          locked = (subst (λ (x : Rules). represents x a.log a.mark b) seat.ruled (subst (λ (n : ℕ). represents v.rules a.log n b) closed (subst (λ (l : List Event). represents v.rules l v.sight.closed b) seen fits)), refl);
          each = all_set (Fits rules a') s.views id w (seated rules a' id w r' seat')
              (λ j u n q. fits_map rules a a' j u u.role (λ f. record {
                ruled = f.ruled;
                part = f.part;
                met_part = f.met_part;
                holds = held_none rules a' j u.sight u.held (held_elsewhere rules a id j u.sight u.held (λ e. n (sym e)) h.0 f.holds);
                in_role = role_ported k k' a.log a.ticket_at a.writer_at i0 n0 id j u.sight.seen u.role c.ids_up c.numbers_up c.cursors c.active oi on n (subst (λ (x : Book). InRole x a.log a.ticket_at a.writer_at j u.sight.seen u.role) (sym h.1) f.in_role);
              }) (r.each j u q));
          reached = here (HasSeen (sight a.log a.mark)) s.views id v w at (c.live', inl h.2);
          closer = λ n. let t = r.closer n in
              let u = its_seat book_of represents sound rules s r (a.writer_at a.mark) t.0 t.1 (numbered_live a.mark t.0.role t.2.0) in
              let le = (by_k a.mark (number_given a.book a.log a.ticket_at a.writer_at (a.writer_at a.mark) a.mark t.0.sight.seen t.0.role t.2.0 u.in_role)).1 in
              subst (λ (i : ℕ). At (set s.views id w) i (HasClosed a.mark a.log)) (moved a.mark le)
              (at_kept (HasClosed a.mark a.log) s.views id v w (a.writer_at a.mark) at (λ p. (c.number_kept a.mark p.0, p.1)) t);
          authors = λ j e q. given_more e.who k.numbers k'.numbers c.numbers_up (by_k e.who (r.authors j e q));
          tickets = owners (λ i u. HasId i u.role) s.views a.ticket_at i0 id k.ids k'.ids v w at oi c.id_kept c.id_given (λ i g. r.tickets i (subst (λ (x : Book). IsGiven i x.ids) h.1 g));
          writers = owners (λ n u. IsNumbered n u.role) s.views a.writer_at n0 id k.numbers k'.numbers v w at on c.number_kept c.number_given (λ n g. r.writers n (subst (λ (x : Book). IsGiven n x.numbers) h.1 g));
        },
        (refl, ap rest out),
      )

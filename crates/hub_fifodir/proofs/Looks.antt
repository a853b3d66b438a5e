-- The steps that change no word and only look: a new seat, and a look by a seat.
use Rattle.std.proofs.Common.{◌≡◌, ℕ, List, [], ◌∷◌, ◌++◌, length, set, get_or, Option, Some, None, sym, refl, ap, ◌∙◌, subst, inl}
use mathlib.Core.Option as maybe
use mathlib.Core.Path.{Path}
use lib.ListN.{get_elem?}
use Rattle.atomic_table.specs.Table.{State, Me, step, keeps, Allows, Enters}
use Rattle.hub_record.specs.declared.Event.{Event}
use Rattle.hub_fifodir.specs.declared.views.Rules.{Rules}
use Rattle.hub_fifodir.specs.declared.views.Book.{Book}
use Rattle.hub_fifodir.specs.declared.views.View.{View}
use Rattle.hub_fifodir.specs.Rule.{LockState, free, held_by, Account, IsSeat, Fits, sight, view, visitor, IsLive, HasId, HasSeen, HasHeld, HasClosed, IsNumbered, IsHome, Ordered}
use Rattle.hub_fifodir.specs.Steps.{entered_as, looked_as, KnowsOwnClose}
use Rattle.hub_fifodir.proofs.ViewLists.{all_set, at_kept, here, at_more, all_more, somewhere_more, same_at}
use Rattle.hub_fifodir.proofs.OneSeat.{part_whole, live_seat, seated, role_sane, renew, part_grows, any_grows, numbered_live, number_seat}

pub none_some : {A : Type 0} {x : A} → Path (Option A) None (Some x) → ⊥
none_some e = cc

module _ {B : Type 0} (book_of : B → Book) (represents : Rules → List Event → ℕ → B → Type 0) (sound : Rules → List Event → Type 0) (rules : Rules) where
  abbrev pub St : Type 0
  St = State (Option B) View

  abbrev pub Rule : St → Type 0
  Rule = Ordered book_of represents sound rules

  abbrev pub M : Type 0
  M = Me (Option B) View

  pub its_seat : (s : St) (r : Rule s) (j : ℕ) (v : View) → get_elem? s.views j ≡ maybe.some v → IsLive v.role → IsSeat rules r.a j v
  its_seat s r j v at live = live_seat rules r.a j v v.role live (r.each j v at)

  -- the publisher that closed the record has seen that
  pub own_close : (s : St) (r : Rule s) (id : ℕ) (v : View) → get_elem? s.views id ≡ maybe.some v → KnowsOwnClose v.role v.sight (sight r.a.log r.a.mark)
  own_close s r id v at n is marked some_mark =
      let a = r.a in let seat = its_seat s r id v at (numbered_live n v.role is) in
      let t = r.closer (λ z. some_mark (sym marked ∙ z)) in
      let place : a.writer_at a.mark ≡ id = ap a.writer_at marked ∙ number_seat a.book a.log a.ticket_at a.writer_at id n v.sight.seen v.role is seat.in_role in
      let same : t.0 ≡ v = same_at s.views id t.0 v (ap (get_elem? s.views) (sym place) ∙ t.1) at in
      subst (λ (x : View). x.sight ≡ sight a.log a.mark) same t.2.1

  home_more : (a : Account B) (t : LockState B) (views : List View) (w : View) → IsHome book_of represents sound rules a t views → IsHome book_of represents sound rules a t (views ++ w ∷ [])
  home_more a (free b) views w h = h
  home_more a (held_by j) views w h = at_more (HasHeld a.book) views w j h

  -- a new view that fits, and doesn't have the lock
  pub joined_by : (s : St) (r : Rule s) (w : View) → Fits rules r.a (length s.views) w → Rule record { words = s.words; homes = s.homes; views = s.views ++ w ∷ [] }
  joined_by s r w fits = let a = r.a in record {
    a = a;
    words_are = r.words_are;
    homes_are = r.homes_are;
    is_sound = r.is_sound;
    bounded = r.bounded;
    pending = r.pending;
    locked = home_more a a.lock s.views w r.locked;
    each = all_more (Fits rules a) s.views w fits r.each;
    reached = somewhere_more (HasSeen (sight a.log a.mark)) s.views w r.reached;
    closer = λ n. at_more (HasClosed a.mark a.log) s.views w (a.writer_at a.mark) (r.closer n);
    authors = r.authors;
    tickets = λ i g. at_more (λ v. HasId i v.role) s.views w (a.ticket_at i) (r.tickets i g);
    writers = λ n g. at_more (λ v. IsNumbered n v.role) s.views w (a.writer_at n) (r.writers n g);
  }

  pub enters : (slots : ℕ) (m : M) → m.0.rules ≡ rules → Enters Rule slots 0 (λ n w. entered_as book_of represents sound (step slots 0 0 0 maybe.none) m n (w, []))
  enters slots m ruled s r _ _ = let a = r.a in let w = visitor m.0.rules a.log a.mark in (
    w,
    joined_by s r w record { ruled = ruled; part = part_whole rules a; met_part = tt; holds = tt; in_role = tt },
    (refl, ap (λ (l : List ℕ). get_or l 0 0) r.words_are, subst (λ (x : Rules). sound x a.log) (sym ruled) r.is_sound),
  )

  pub home_kept : (a : Account B) (t : LockState B) (views : List View) (j : ℕ) (v w : View) → get_elem? views j ≡ maybe.some v → (HasHeld a.book v → HasHeld a.book w)
      → IsHome book_of represents sound rules a t views → IsHome book_of represents sound rules a t (set views j w)
  home_kept a (free b) views j v w at keep h = h
  home_kept a (held_by k) views j v w at keep h = at_kept (HasHeld a.book) views j v w k at keep h

  pub looks : (slots id : ℕ) (me : M) → IsLive me.0.role → me.0.held ≡ None → Allows Rule slots id me 0 (λ n. n) (looked_as book_of represents sound (step slots 0 0 0 maybe.none) me)
  looks slots id me live idle s r _ at _ =
      let a = r.a in let v = me.0 in let seat = its_seat s r id v at live in
      let w = view v.rules (sight a.log a.mark) v.role None None in
      let seat' = renew rules a id v None seat tt in (
        w,
        keeps,
        tt,
        record {
          a = a;
          words_are = ap (λ (l : List ℕ). set l 0 (get_or l 0 0)) r.words_are;
          homes_are = r.homes_are;
          is_sound = r.is_sound;
          bounded = r.bounded;
          pending = r.pending;
          locked = home_kept a a.lock s.views id v w at (λ h. absurd (none_some (sym idle ∙ h.1))) r.locked;
          each = all_set (Fits rules a) s.views id w (seated rules a id w v.role seat') (λ k u _ p. r.each k u p);
          reached = here (HasSeen (sight a.log a.mark)) s.views id v w at (live, inl refl);
          closer = λ n. at_kept (HasClosed a.mark a.log) s.views id v w (a.writer_at a.mark) at (λ h. (h.0, refl)) (r.closer n);
          authors = r.authors;
          tickets = λ i g. at_kept (λ u. HasId i u.role) s.views id v w (a.ticket_at i) at (λ h. h) (r.tickets i g);
          writers = λ n g. at_kept (λ u. IsNumbered n u.role) s.views id v w (a.writer_at n) at (λ h. h) (r.writers n g);
        },
        (
          record {
            is = refl;
            grows = part_grows rules a v.sight seat.part;
            met = any_grows rules a v.met seat.met_part;
            own = own_close s r id v at;
            sane = role_sane rules a id a.log v.role seat'.in_role;
            sound_is = subst (λ (x : Rules). sound x a.log) (sym seat.ruled) r.is_sound;
          },
          refl,
          ap (λ (l : List ℕ). get_or l 0 0) r.words_are,
        ),
      )

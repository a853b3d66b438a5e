-- A seat splits off a note, and another seat joins it.
use Rattle.std.proofs.Common.{◌≡◌, ◌≢◌, ℕ, List, [], ◌∷◌, ◌++◌, set, Option, Some, None, sym, refl, ap, ◌∙◌, subst, inl, inr, ⊎_elim}
use mathlib.Core.Option as maybe
use mathlib.Core.Logic.{dite}
use native.Mathlib.Decide.{ℕ_discrete}
use lib.ListN.{get_elem?}
use Rattle.atomic_table.specs.Table.{State, Splits, Joins}
use Rattle.atomic_table.proofs.Lists.{at_set, set_again, set_else}
use Rattle.hub_record.specs.declared.Event.{Event}
use Rattle.hub_fifodir.specs.declared.views.Rules.{Rules}
use Rattle.hub_fifodir.specs.declared.views.Book.{Book}
use Rattle.hub_fifodir.specs.declared.views.Sight.{Sight}
use Rattle.hub_fifodir.specs.declared.views.View.{View}
use Rattle.hub_fifodir.specs.declared.views.Role.TheVariants.{Note}
use Rattle.hub_fifodir.specs.Rule.{Fits, sight, spent_view, IsLive, HasId, HasSeen, HasClosed, Somewhere, IsNumbered}
use Rattle.hub_fifodir.specs.Steps.{note_of, with_note}
use Rattle.hub_fifodir.proofs.ViewLists.{all_set, at_kept, at_own, same_at, somewhere_kept}
use Rattle.hub_fifodir.proofs.OneSeat.{seated}
use Rattle.hub_fifodir.proofs.Looks.{Rule, its_seat, home_kept, joined_by, none_some}

still_seen : (all : Sight) (views : List View) (id : ℕ) (v w : View) (other : ℕ) (u : View) → get_elem? views id ≡ maybe.some v → get_elem? (set views id w) other ≡ maybe.some u → ¬ (other ≡ id)
    → u.met ≡ None → IsLive w.role → w.met ≡ Some u.sight → Somewhere (set views id w) (HasSeen all) → Somewhere (set (set views id w) other spent_view) (HasSeen all)
still_seen all views id v w other u at there apart alone live has t = dite (ℕ_discrete t.0 other)
    (λ same. let is : t.1 ≡ u = same_at (set views id w) other t.1 u (ap (get_elem? (set views id w)) (sym same) ∙ t.2) there in
    let seen = subst (HasSeen all) is t.3 in
    let now : w.met ≡ Some all = ⊎_elim (λ (e : u.sight ≡ all). has ∙ ap Some e) (λ (e : u.met ≡ Some all). absurd (none_some (sym alone ∙ e))) seen.1 in
    let mine = at_own (HasSeen all) views id v w at (live, inr now) in
    (id, mine.0, set_else (set views id w) other id spent_view (λ e. apart (sym e)) ∙ mine.1, mine.2))
    (λ diff. (t.0, t.1, set_else (set views id w) other t.0 spent_view diff ∙ t.2, t.3))

module _ {B : Type 0} (book_of : B → Book) (represents : Rules → List Event → ℕ → B → Type 0) (sound : Rules → List Event → Type 0) (rules : Rules) where
  abbrev St : Type 0
  St = State (Option B) View

  abbrev R : St → Type 0
  R = Rule book_of represents sound rules

  pub splits : (id : ℕ) (v : View) → IsLive v.role → Splits R id v v (note_of v)
  splits id v live s r at =
      let seat = its_seat book_of represents sound rules s r id v at live in
      let more = joined_by book_of represents sound rules s r (note_of v) record { ruled = seat.ruled; part = seat.part; met_part = tt; holds = tt; in_role = tt } in
      subst (λ (l : List View). R record { words = s.words; homes = s.homes; views = l ++ note_of v ∷ [] }) (sym (set_again s.views id v at)) more

  -- one view changes its note or is spent, and nothing else changes
  abbrev changed : (s : St) (r : R s) (id : ℕ) (v w : View) → get_elem? s.views id ≡ maybe.some v → Fits rules r.a id w → v.held ≡ None → ((i : ℕ) → HasId i v.role → HasId i w.role)
      → ((n : ℕ) → IsNumbered n v.role → IsNumbered n w.role × (w.sight ≡ v.sight)) → Somewhere (set s.views id w) (HasSeen (sight r.a.log r.a.mark)) → R record { words = s.words; homes = s.homes; views = set s.views id w }
  changed s r id v w at fits idle known named seen = let a = r.a in record {
    a = a;
    words_are = r.words_are;
    homes_are = r.homes_are;
    is_sound = r.is_sound;
    bounded = r.bounded;
    pending = r.pending;
    locked = home_kept book_of represents sound rules a a.lock s.views id v w at (λ h. absurd (none_some (sym idle ∙ h.1))) r.locked;
    each = all_set (Fits rules a) s.views id w fits (λ j u n q. r.each j u q);
    reached = seen;
    closer = λ n. at_kept (HasClosed a.mark a.log) s.views id v w (a.writer_at a.mark) at (λ p. let t = named a.mark p.0 in (t.0, t.1 ∙ p.1)) (r.closer n);
    authors = r.authors;
    tickets = λ i g. at_kept (λ u. HasId i u.role) s.views id v w (a.ticket_at i) at (known i) (r.tickets i g);
    writers = λ n g. at_kept (λ u. IsNumbered n u.role) s.views id v w (a.writer_at n) at (λ p. (named n p).0) (r.writers n g);
  }

  pub joins : (id : ℕ) (v : View) (other : ℕ) (u : View) → IsLive v.role → v.held ≡ None → v.met ≡ None → u.role ≡ Note → u.held ≡ None → u.met ≡ None → Joins R id v other u (with_note v u) spent_view
  joins id v other u live idle alone note idle' alone' s r at apart there =
      let a = r.a in let w = with_note v u in let all = sight a.log a.mark in
      let was : get_elem? s.views other ≡ maybe.some u = ⊎_elim (λ (t : (other ≡ id) × (w ≡ u)). absurd (apart t.0)) (λ (t : (other ≢ id) × (get_elem? s.views other ≡ maybe.some u)). t.1) (at_set s.views id other w u there) in
      let seat = its_seat book_of represents sound rules s r id v at live in
      let theirs = its_seat book_of represents sound rules s r other u was (subst IsLive (sym note) tt) in
      let fits : Fits rules a id w = seated rules a id w v.role record { ruled = seat.ruled; part = seat.part; met_part = theirs.part; holds = seat.holds; in_role = seat.in_role } in
      let seen : Somewhere (set s.views id w) (HasSeen all) =
      somewhere_kept (HasSeen all) s.views id v w at (λ h. (live, ⊎_elim (λ (e : v.sight ≡ all). inl e) (λ (e : v.met ≡ Some all). absurd (none_some (sym alone ∙ e))) h.1)) r.reached in
      let first : R record { words = s.words; homes = s.homes; views = set s.views id w } = changed s r id v w at fits idle (λ i p. p) (λ n p. (p, refl)) seen in
      changed record { words = s.words; homes = s.homes; views = set s.views id w } first other u spent_view there tt idle'
      (λ i p. absurd (subst (HasId i) note p)) (λ n p. absurd (subst (IsNumbered n) note p)) (still_seen all s.views id v w other u at there apart alone' live refl seen)

-- The ways in which a seat releases the lock, from what the call on the locked value ensures.
use Rattle.std.proofs.Common.{◌≡◌, ℕ, suc, ◌+◌, ◌<◌, ◌≤◌, nat_eq, cond, true, false, List, [], length, Some, Err, sym, refl, ap, ◌∙◌, subst, inl, inr, arith}
use Rattle.std.proofs.lemmas.Bool.{ne_eqb, eq-eqb}
use mathlib.Core.Logic.{dite}
use native.Mathlib.Decide.{ℕ_discrete}
use Rattle.hub_record.specs.declared.Event.{Event}
use Rattle.hub_record.specs.declared.limits.Limits.{Limits}
use Rattle.hub_record.specs.World.{World, Subscription}
use Rattle.hub_record.specs.Kept.{Kept, Represents}
use Rattle.hub_fifodir.specs.declared.PassError.{PassError}
use Rattle.hub_fifodir.specs.declared.PassError.TheVariants as pass
use Rattle.hub_fifodir.specs.declared.views.Book.{Book}
use Rattle.hub_fifodir.specs.declared.views.Role.{Role}
use Rattle.hub_fifodir.specs.declared.views.Role.TheVariants.{Visitor}
use Rattle.hub_fifodir.specs.declared.locked.Locked.{Locked}
use Rattle.hub_fifodir.specs.Locks.{RepresentsWorld, IsCounted, is_current, KeepsPublishers, KeepsRecord, HasLeft, PublisherReply}
use Rattle.hub_fifodir.specs.Passes.{MayRefuseNumber}
use Rattle.hub_fifodir.specs.Rule.{IsLive, IsGiven, IsBounded, cursor_of, book_of, IsBehind}
use Rattle.hub_fifodir.specs.Steps.{M, Changes, Gives, IsFresh, view_at_rest, writer, as_gone}
use Rattle.hub_fifodir.proofs.Subscriptions.{cursor_given}

pub none_between : (n most : ℕ) → most < n → n ≤ most → ⊥
none_between n most a b = absurd (omega arith)

-- only what was given is current, and has a cursor
pub bounded_after : (b : Locked) (w : World) → RepresentsWorld b w → ((n : ℕ) → is_current b.active.keys n ≡ true → IsGiven n b.given) → IsBounded (book_of b)
bounded_after b w h low = record { cursors = λ i next at. cursor_given b.kept.value w i next h.for at; active = low }

-- with the same record
pub still_represents : (b b' : Locked) (w : World) → KeepsRecord b b' → (IsCounted b → IsCounted b') → RepresentsWorld b w → RepresentsWorld b' w
still_represents b b' w same count h = record { for = subst (λ (r : Kept). Represents r w) (sym same.0) h.for; ids = same.1 ∙ h.ids; counted = count h.counted }

-- ---- as before

same_state : (seen : List Event) (r : Role) (k : Book) → IsLive r → IsBounded k → Changes seen r r k k (suc k.ids) (suc k.numbers)
same_state seen r k live low = record {
  ids_up = omega arith;
  numbers_up = omega arith;
  cursors = λ i n. refl;
  active = λ n m. refl;
  live = live;
  live' = live;
  own_id = λ f g j h. inl (omega arith);
  own_number = λ f g j h. inl (omega arith);
  id_kept = λ i h. h;
  number_kept = λ n h. h;
  id_given = λ i a b. absurd (none_between i k.ids a b);
  number_given = λ n a b. absurd (none_between n k.numbers a b);
  bounded = low;
  fits = λ f g j h _ _. h;
}

pub rests : (m : M) (b b' : Locked) → IsLive m.0.role → m.0.held ≡ Some (book_of b) → IsBounded (book_of b) → book_of b' ≡ book_of b → IsBehind m.0.rules m.0.sight.seen m.0.sight.closed b' → Gives m b' (view_at_rest m.0 m.0.role)
rests m b b' live held low same behind =
    let k : Book = book_of b in (k, m.0.role, suc k.ids, suc k.numbers, held, refl, behind, subst (λ (x : Book). Changes m.0.sight.seen m.0.role m.0.role k x (suc k.ids) (suc k.numbers)) (sym same) (same_state m.0.sight.seen m.0.role k live low))

-- a call on the record alone that leaves the subscriptions as they are
pub same_book : (b b' : Locked) (w w' : World) → RepresentsWorld b w → RepresentsWorld b' w' → w'.subscriptions ≡ w.subscriptions → KeepsPublishers b b' → book_of b' ≡ book_of b
same_book b b' w w' h h' same others =
    let cursors : b'.kept.value.cursors ≡ b.kept.value.cursors = h'.for.cursors ∙ ap (λ (l : List Subscription). Rattle.hub_record.specs.World.current_from 1 l) same ∙ sym h.for.cursors in
    let ids : b'.kept.value.given ≡ b.kept.value.given = h'.for.given ∙ ap length same ∙ sym h.for.given in
    λ i. record { cursors = cursors i; ids = ids i; active = others.0 i; numbers = others.1 i }

-- ---- a visitor becomes the publisher with the next number

pub rests_as_publisher : (m : M) (b b' : Locked) (n : ℕ) → m.0.role ≡ Visitor → m.0.held ≡ Some (book_of b) → IsBounded (book_of b) → IsFresh (book_of b) m.0.sight
    → n ≡ b.given + 1 → ((x : ℕ) → is_current b'.active.keys x ≡ cond (nat_eq n x) true (is_current b.active.keys x)) → b'.given ≡ n
    → IsBehind m.0.rules m.0.sight.seen m.0.sight.closed b → KeepsRecord b b' → (IsCounted b → IsCounted b') → Gives m b' (view_at_rest m.0 (writer b'.given []))
rests_as_publisher m b b' n role held low fresh next joined count behind keeps counted =
    let k : Book = book_of b in let n' : ℕ = b'.given in let up : n' ≡ b.given + 1 = count ∙ next in
    let is_current' = still_represents b b' behind.world keeps counted behind.for in
    let cursors : b'.kept.value.cursors ≡ b.kept.value.cursors = is_current'.for.cursors ∙ sym behind.for.for.cursors in
    let ids : b'.kept.value.given ≡ b.kept.value.given = is_current'.for.given ∙ sym behind.for.for.given in
    let all : (x : ℕ) → is_current b'.active.keys x ≡ cond (nat_eq n' x) true (is_current b.active.keys x) = λ x. joined x ∙ ap (λ (y : ℕ). cond (nat_eq y x) true (is_current b.active.keys x)) (sym count) in (
      k,
      writer n' [],
      suc k.ids,
      n',
      held,
      refl,
      record { world = behind.world; for = is_current'; events = behind.events; closed = behind.closed; kind = behind.kind; limits = behind.limits },
      subst (λ (r : Role). Changes m.0.sight.seen r (writer n' []) k (book_of b') (suc k.ids) n') (sym role) record {
        ids_up = omega arith;
        numbers_up = omega arith;
        cursors = λ i e. ap (λ c. cursor_of c i) cursors;
        active = λ x ne. all x ∙ ap (λ t. cond t true (is_current b.active.keys x)) (ne_eqb n' x (λ e. ne (sym e)));
        live = tt;
        live' = tt;
        own_id = λ f g j h. inl (omega arith);
        own_number = λ f g j h. inl (omega arith);
        id_kept = λ x h. absurd h;
        number_kept = λ x h. absurd h;
        id_given = λ i a c. absurd (none_between i b.kept.value.given a (omega arith));
        number_given = λ x a c. (omega arith, omega arith);
        bounded = bounded_after b' behind.world is_current' (λ x at. dite (ℕ_discrete n' x)
            (λ e. (omega arith, omega arith))
            (λ ne. let g = low.active x (sym (all x ∙ ap (λ t. cond t true (is_current b.active.keys x)) (ne_eqb n' x ne)) ∙ at) in let a = g.0 in let c = g.1 in (omega arith, omega arith)));
        fits = λ f g j h _ at. record {
          its_seat = at;
          given = (omega arith, omega arith);
          all = fresh.silent n' (omega arith);
          known = fresh.silent n' (omega arith);
          active = all n' ∙ ap (λ t. cond t true (is_current b.active.keys n')) (eq-eqb n' n' refl);
        };
      },
    )

-- ---- a publisher leaves

pub rests_left : (m : M) (b b' : Locked) (n : ℕ) (mine : List ℕ) → m.0.role ≡ writer n mine → m.0.held ≡ Some (book_of b) → IsBounded (book_of b) → IsBehind m.0.rules m.0.sight.seen m.0.sight.closed b
    → HasLeft b n b' → KeepsRecord b b' → (IsCounted b → IsCounted b') → Gives m b' (view_at_rest m.0 (as_gone m.0.role))
rests_left m b b' n mine role held low behind left keeps counted =
    let k : Book = book_of b in
    let is_current' = still_represents b b' behind.world keeps counted behind.for in
    let cursors : b'.kept.value.cursors ≡ b.kept.value.cursors = is_current'.for.cursors ∙ sym behind.for.for.cursors in
    let ids : b'.kept.value.given ≡ b.kept.value.given = is_current'.for.given ∙ sym behind.for.for.given in
    let numbers : b'.given ≡ b.given = left.1 in
    let book_ids : (book_of b').ids ≡ k.ids = ids in
    subst (λ (r : Role). Gives m b' (view_at_rest m.0 (as_gone r))) (sym role) (
      k,
      as_gone (writer n mine),
      suc k.ids,
      n,
      held,
      refl,
      record { world = behind.world; for = is_current'; events = behind.events; closed = behind.closed; kind = behind.kind; limits = behind.limits },
      subst (λ (r : Role). Changes m.0.sight.seen r (as_gone (writer n mine)) k (book_of b') (suc k.ids) n) (sym role) record {
        ids_up = omega arith;
        numbers_up = omega arith;
        cursors = λ i e. ap (λ c. cursor_of c i) cursors;
        active = λ x ne. left.0 x ∙ ap (λ t. cond t false (is_current b.active.keys x)) (ne_eqb n x (λ e. ne (sym e)));
        live = tt;
        live' = tt;
        own_id = λ f g j h. inl (omega arith);
        own_number = λ f g j h. inr h.its_seat;
        id_kept = λ x h. absurd h;
        number_kept = λ x h. h;
        id_given = λ i a c. absurd (none_between i b.kept.value.given a (omega arith));
        number_given = λ x a c. absurd (none_between x b.given a (omega arith));
        bounded = bounded_after b' behind.world is_current' (λ x at. dite (ℕ_discrete n x)
            (λ e. let no : false ≡ true = sym (left.0 x ∙ ap (λ t. cond t false (is_current b.active.keys x)) (eq-eqb n x e)) ∙ at in cc)
            (λ ne. let g = low.active x (sym (left.0 x ∙ ap (λ t. cond t false (is_current b.active.keys x)) (ne_eqb n x ne)) ∙ at) in let a = g.0 in let c = g.1 in (omega arith, omega arith)));
        fits = λ f g j h _ _. record {
          its_seat = h.its_seat;
          given = (h.given.0, let a = h.given.1 in omega arith);
          all = h.all;
          known = h.known;
          active = left.0 n ∙ ap (λ t. cond t false (is_current b.active.keys n)) (eq-eqb n n refl);
        };
      },
    )

-- ---- why there is no publisher

pub may_refuse_number : (b : Locked) (w : World) (limits : Limits) (e : PassError) → RepresentsWorld b w → w.limits ≡ limits → PublisherReply b (Err e) → MayRefuseNumber limits e
may_refuse_number b w limits pass.Many h is reply =
    let ids = h.ids in let most = h.counted.0 in let within = h.counted.1 in let same = ap (λ (l : Limits). l.ids) is in
    omega arith
may_refuse_number b w limits e h is reply = tt

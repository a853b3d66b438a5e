-- Lists of states, when they are emptied and when they grow.
use Rattle.std.proofs.Common.{◌≡◌, ℕ, ◌+◌, ◌<◌, true, false, List, [], ◌∷◌, ◌++◌, length, replicate, set, vec_capacity, All, sym, ap, ◌∙◌, subst, arith, length-append, length-set, ◌≤◌, ◌⊎◌, Option, Some, slice_index, inl, inr, ⊎_elim}
use Rattle.std.proofs.lemmas.List.{length-replicate}
use Rattle.std.proofs.lemmas.List.Elements.{All-push}
use Rattle.regex_vm.specs.Bits.{members}
use Rattle.regex_vm.proofs.SetLemmas.{members_le}
use Rattle.regex_dfa.specs.Walks.{Tracks, Grows}
use Rattle.regex_dfa.proofs.BackLemmas.{Tracks-nil, Tracks-push, members-replicate, Grows-refl, Grows-trans, Grows-keeps}
use Rattle.hub_listen.specs.States.{IsListed}
use Rattle.hub_listen.specs.declared.states.States.TheInside.{Inside}
use Rattle.std.proofs.lemmas.Bool.{cases_lt}
use Rattle.regex_nfa.specs.Run.{state_of}
use Rattle.regex_nfa.specs.Paths.{EmptyEdge, by_first, by_second, by_save, by_look}
use Rattle.regex_nfa.specs.declared.state.State.TheVariants.{Split}
use Rattle.regex_nfa.specs.declared.nfa.Nfa.{Nfa}
use Rattle.regex_dfa.specs.Moves.{Has}
use Rattle.regex_dfa.proofs.HasLemmas.{Has-at, index_of_Has}

none_within : (n : ℕ) (xs : List ℕ) → xs ≡ [] → All (λ q. q < n) xs
none_within n xs e k d h = let len = ap length e in absurd (omega arith)

pub IsListed-none : (a : Inside) (n : ℕ) → a.set ≡ replicate n false → a.list.items ≡ [] → vec_capacity a.list ≡ n → IsListed a
IsListed-none a n flags items room =
    let len : length a.set ≡ n = ap length flags ∙ length-replicate n false in
    let none : length a.list.items ≡ 0 = ap length items in record {
      tracks = subst (λ f. Tracks f a.list.items) (sym flags) (subst (Tracks (replicate n false)) (sym items) (Tracks-nil n));
      within = none_within (length a.set) a.list.items items;
      counted = ap members flags ∙ members-replicate n ∙ sym none;
      few = omega arith;
      room = omega arith;
    }

pub IsListed-push : (a b : Inside) (q : ℕ) → IsListed a → q < length a.set → b.set ≡ set a.set q true → b.list.items ≡ a.list.items ++ q ∷ []
    → members b.set ≡ members a.set + 1 → vec_capacity b.list ≡ vec_capacity a.list → IsListed b
IsListed-push a b q kept inside flags items counted room =
    let len : length b.set ≡ length a.set = ap length flags ∙ length-set a.set q true in
    let more : length b.list.items ≡ length a.list.items + 1 = ap length items ∙ length-append a.list.items (q ∷ []) in
    let before = kept.counted in
    let most = members_le b.set in
    let wide = kept.room in record {
      tracks = subst (λ f. Tracks f b.list.items) (sym flags)
          (subst (Tracks (set a.set q true)) (sym items) (Tracks-push a.set a.list.items q inside kept.tracks));
      within = subst (λ n. All (λ x. x < n) b.list.items) (sym len)
          (subst (All (λ x. x < length a.set)) (sym items) (All-push (λ x. x < length a.set) a.list.items q kept.within inside));
      counted = omega arith;
      few = omega arith;
      room = omega arith;
    }

-- ---- lists of states that grow

pub Grows-weaken : (P Q : ℕ → Type 0) (old new : List ℕ) → ((q : ℕ) → Q q → P q) → Grows Q old new → Grows P old new
Grows-weaken P Q old new weaken grows = Grows-trans P Q old old new weaken (Grows-refl P old) grows

pub Grows-cases : (P : ℕ → Type 0) (old new : List ℕ) (q : ℕ) → Grows P old new → Has new q → Has old q ⊎ P q
unfolding Grows
Grows-cases P old new q grows = grows.3 q

-- the edges that leave a split
pub edges_of_split : (nfa : Nfa) (text : List ℕ) (i p q a b : ℕ) → state_of nfa p ≡ Split a b → EmptyEdge nfa text i p q → (a ≡ q) ⊎ (b ≡ q)
edges_of_split nfa text i p q a b is (by_first second e) = let same : Split a b ≡ Split q second = sym is ∙ e in inl (cc)
edges_of_split nfa text i p q a b is (by_second first e) = let same : Split a b ≡ Split first q = sym is ∙ e in inr (cc)
edges_of_split nfa text i p q a b is (by_save slot e) = absurd (cc)
edges_of_split nfa text i p q a b is (by_look l e ok) = absurd (cc)

-- ---- a list to which the states of another are added one after the other

module _ (from : List ℕ) (old new : List ℕ) (k p : ℕ) (inside : k < length from) (is : p ≡ slice_index from k)
    (grows : Grows (λ q. p ≡ q) old new) (has : Has new p) where
  pub added_more : ((j : ℕ) → j < k → Has old (slice_index from j)) → (j : ℕ) → j < k + 1 → Has new (slice_index from j)
  added_more before j below =
      ⊎_elim (λ (earlier : j < k). Grows-keeps _ old new _ grows (before j earlier))
      (λ (last : k ≤ j). let same : k ≡ j = omega arith in subst (Has new) (is ∙ ap (slice_index from) same) has)
      (cases_lt j k)

  pub added_only : ((q : ℕ) → Has old q → Has from q) → (q : ℕ) → Has new q → Has from q
  added_only before q h =
      ⊎_elim (before q) (λ e. subst (Has from) (sym is ∙ e) (Has-at from k 0 inside)) (Grows-cases _ old new q grows h)

pub added_all : (from new : List ℕ) (k : ℕ) → length from ≤ k → ((j : ℕ) → j < k → Has new (slice_index from j)) → (q : ℕ) → Has from q → Has new q
added_all from new k le all q h =
    let at = index_of_Has from q h in let below = at.1 in subst (Has new) at.2 (all at.0 (omega arith))

-- ---- the states to which those of another list go on a byte, one after the other

module _ (from : List ℕ) (goes : ℕ → Option ℕ) (old new : List ℕ) (k p : ℕ) (inside : k < length from) (is : p ≡ slice_index from k) where
  pub read_more : ((r : ℕ) → Has old r → Has new r) → ((r : ℕ) → goes p ≡ Some r → Has new r)
      → ((j r : ℕ) → j < k → goes (slice_index from j) ≡ Some r → Has old r) → (j r : ℕ) → j < k + 1
      → goes (slice_index from j) ≡ Some r → Has new r
  read_more keeps here before j r below e =
      ⊎_elim (λ (earlier : j < k). keeps r (before j r earlier e))
      (λ (last : k ≤ j). let same : k ≡ j = omega arith in here r (ap goes (is ∙ ap (slice_index from) same) ∙ e))
      (cases_lt j k)

  pub read_only : (r : ℕ) → goes p ≡ Some r → Grows (λ q. r ≡ q) old new
      → ((q : ℕ) → Has old q → (x : ℕ) × Has from x × (goes x ≡ Some q)) → (q : ℕ) → Has new q → (x : ℕ) × Has from x × (goes x ≡ Some q)
  read_only r e grows before q h =
      ⊎_elim (before q)
      (λ same. (p, subst (Has from) (sym is) (Has-at from k 0 inside), e ∙ ap Some same))
      (Grows-cases _ old new q grows h)

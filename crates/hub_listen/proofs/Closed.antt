-- Lists that grow until they have every state in which a search is.
use Rattle.std.proofs.Common.{◌≡◌, ◌≢◌, ℕ, ◌+◌, ◌-◌, ◌<◌, ◌≤◌, ◌↔◌, List, [], length, Some, slice_get, slice_index, refl, sym, ap, ◌∙◌, subst, inl, inr, ⊎_elim, arith}
use Rattle.std.proofs.lemmas.Bool.{cases_lt}
use Rattle.std.proofs.lemmas.Option.{same_Some, slice_get-get_or}
use Rattle.regex_nfa.specs.Run.{state_of}
use Rattle.regex_nfa.specs.States.{next_on}
use Rattle.regex_nfa.specs.Paths.{EmptyEdge}
use Rattle.regex_nfa.specs.declared.state.State.TheVariants.{Match}
use Rattle.regex_nfa.specs.declared.nfa.Nfa.{Nfa}
use Rattle.regex_dfa.specs.Moves.{Has}
use Rattle.regex_dfa.specs.Walks.{Grows}
use Rattle.regex_dfa.proofs.HasLemmas.{Has-nil, Has-at, index_of_Has}
use Rattle.hub_listen.specs.Alive.{Reaches, begins, reads, skips, Enters, AreAlive, AreReached, AreRead, ClosesBelow, HasMatch}
use Rattle.hub_listen.proofs.Reached.{Reaches-entered}

-- the states that a search of the empty text enters
pub AreAlive-start : (nfa : Nfa) (states : List ℕ) → Grows (λ q. nfa.unanchored ≡ q) [] states → Has states nfa.unanchored → AreAlive nfa [] 0 states
unfolding Grows
AreAlive-start nfa states grows has q = (
  λ h. ⊎_elim (λ none. absurd (Has-nil q none)) (λ e. inl (sym e, refl)) (grows.3 q h),
  λ e. ⊎_elim (λ here. subst (Has states) (sym here.0) has) (λ r. let next = r.next in absurd (omega arith)) e,
)

module _ (nfa : Nfa) (text : List ℕ) (i : ℕ) where
  pub AreReached-alive : (old new : List ℕ) → ((q : ℕ) → Has new q ↔ Has old q) → AreAlive nfa text i old → AreReached nfa text i new
  AreReached-alive old new same alive q h = Reaches-entered nfa text q i ((alive q).0 ((same q).0 h))

  pub closes_more : (seeds old new : List ℕ) (n p : ℕ) → n < length old → p ≡ slice_index old n → Grows (EmptyEdge nfa text i p) old new
      → ((q : ℕ) → EmptyEdge nfa text i p q → Has new q) → state_of nfa p ≢ Match → ClosesBelow nfa text i seeds old n
      → ClosesBelow nfa text i seeds new (n + 1)
  unfolding Grows
  closes_more seeds old new n p inside is grows all unmatched c =
      let has : Has old p = subst (Has old) (sym is) (Has-at old n 0 inside) in
      let at : slice_index new n ≡ p = grows.1 n 0 inside ∙ sym is in record {
        keeps = λ q h. grows.2 q (c.keeps q h);
        reached = λ q h. ⊎_elim (c.reached q) (λ edge. skips q i p (c.reached p has) edge) (grows.3 q h);
        closed = λ k r below edge.
            ⊎_elim
            (λ (earlier : k < n). grows.2 r (c.closed k r earlier (subst (λ x. EmptyEdge nfa text i x r) (grows.1 k 0 (omega arith)) edge)))
            (λ (last : n ≤ k). let same : k ≡ n = omega arith in
            all r (subst (λ x. EmptyEdge nfa text i x r) (ap (slice_index new) same ∙ at) edge))
            (cases_lt k n);
        unmatched = λ k below e.
            ⊎_elim
            (λ (earlier : k < n). c.unmatched k earlier (sym (ap (state_of nfa) (grows.1 k 0 (omega arith))) ∙ e))
            (λ (last : n ≤ k). let same : k ≡ n = omega arith in
            unmatched (sym (ap (state_of nfa) (ap (slice_index new) same ∙ at)) ∙ e))
            (cases_lt k n);
      }

  pub closes_all : (seeds states : List ℕ) (n : ℕ) → length states ≤ n → ClosesBelow nfa text i seeds states n
      → ClosesBelow nfa text i seeds states (length states)
  closes_all seeds states n le c = record {
    keeps = c.keeps;
    reached = c.reached;
    closed = λ k r below edge. c.closed k r (omega arith) edge;
    unmatched = λ k below. c.unmatched k (omega arith);
  }

  module _ (seeds states : List ℕ) (all : (q : ℕ) → Enters nfa text q i → Has seeds q) (c : ClosesBelow nfa text i seeds states (length states)) where
    -- a closed list that has every state that is entered has every state that is reached
    pub Has-reached : (q : ℕ) → Reaches nfa text q i → Has states q
    Has-reached q (begins _ _ is start) = c.keeps q (all q (inl (is, start)))
    Has-reached q (reads _ _ p j b reached read goes next) =
        c.keeps q (all q (inr (record { from = p; place = j; byte = b; reached = reached; read = read; goes = goes; next = next })))
    Has-reached q (skips _ _ p reached edge) =
        let at = index_of_Has states p (Has-reached p reached) in
        c.closed at.0 q at.1 (subst (λ x. EmptyEdge nfa text i x q) (sym at.2) edge)

    pub no_match : ¬ (HasMatch nfa text i)
    no_match m =
        let at = index_of_Has states m.state (Has-reached m.state m.reached) in
        c.unmatched at.0 at.1 (ap (state_of nfa) at.2 ∙ m.match_state)

  -- the states that are entered at the next place
  pub AreAlive-read : (b : ℕ) (reached states : List ℕ) → slice_get text i ≡ Some b → AreReached nfa text i reached
      → ((q : ℕ) → Reaches nfa text q i → Has reached q) → AreRead nfa b reached states → (j : ℕ) → j ≡ i + 1 → AreAlive nfa text j states
  AreAlive-read b reached states here sound all read j next r = (
    λ h. let from = (read r).0 h in inr (record {
      from = from.0;
      place = i;
      byte = b;
      reached = sound from.0 from.1;
      read = here;
      goes = from.2;
      next = next;
    }),
    λ e. ⊎_elim (λ start. let first = start.1 in absurd (omega arith))
        (λ x. let after = x.next in
        let place : x.place ≡ i = omega arith in
        let byte : x.byte ≡ b = same_Some _ _ (sym x.read ∙ ap (slice_get text) place ∙ here) in
        (read r).1 (
          x.from,
          all x.from (subst (Reaches nfa text x.from) place x.reached),
          ap (next_on nfa.transitions.items (state_of nfa x.from)) (sym byte) ∙ x.goes,
        ))
        e,
  )

  -- if the states are closed, no match ends here, and reading the byte here leads to those that are alive at the next
  -- place
  module _ (start seeds reached : List ℕ) (alive : AreAlive nfa text i start) (same : (q : ℕ) → Has seeds q ↔ Has start q)
      (closed : ClosesBelow nfa text i seeds reached (length reached)) where
    pub no_match_here : ¬ (HasMatch nfa text i)
    no_match_here = no_match seeds reached (λ q e. (same q).1 ((alive q).1 e)) closed

    pub AreAlive-next : (b : ℕ) (states : List ℕ) → slice_get text i ≡ Some b → AreRead nfa b reached states → (j : ℕ) → j ≡ i + 1
        → AreAlive nfa text j states
    AreAlive-next b states here read =
        AreAlive-read b reached states here closed.reached (Has-reached seeds reached (λ q e. (same q).1 ((alive q).1 e)) closed) read

-- the states that are alive behind the last byte of a text
pub AreAlive-last : (nfa : Nfa) (text start seeds reached states : List ℕ) → 1 ≤ length text → AreAlive nfa text (length text - 1) start
    → ((q : ℕ) → Has seeds q ↔ Has start q) → ClosesBelow nfa text (length text - 1) seeds reached (length reached)
    → AreRead nfa (slice_index text (length text - 1)) reached states → AreAlive nfa text (length text) states
AreAlive-last nfa text start seeds reached states some alive same closed read =
    AreAlive-next nfa text (length text - 1) start seeds reached alive same closed _ states
    (slice_get-get_or text (length text - 1) 0 (omega arith)) read (length text) (omega arith)

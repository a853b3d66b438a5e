-- The prefixes of a piece: what one of them shows of a longer one.
use Rattle.std.proofs.Common.{◌≡◌, ℕ, ◌+◌, ◌<◌, ◌≤◌, Bool, false, List, [], ◌∷◌, ◌++◌, take, length, get_or, sym, ap, subst, ◌∙◌, arith, append_assoc, length-append, ⊎_elim}
use Rattle.std.proofs.lemmas.Bool.{cases_lt}
use Rattle.std.proofs.lemmas.List.{take_more, length-take-le, take-append-le}
use Rattle.hub_letters.specs.declared.mode.TheConstants.{MOST_GATHERED}
use Rattle.hub_listen.specs.Hit.{finds, IsHit, HasNoHit}

-- ---- a text that grows by the letters of a piece

-- by one more letter
pub grown_more : (old now new piece : List ℕ) (i x : ℕ) → i < length piece → now ≡ old ++ take i piece
    → x ≡ get_or piece i x → new ≡ now ++ x ∷ [] → new ≡ old ++ take (i + 1) piece
grown_more old now new piece i x within e at f =
    f ∙ ap (λ t. t ++ x ∷ []) e ∙ append_assoc old (take i piece) (x ∷ []) ∙ ap (λ y. old ++ (take i piece ++ y ∷ [])) at
    ∙ ap (λ t. old ++ t) (sym (take_more piece i x within))

-- how long the text is then
pub length_grown : (old now piece : List ℕ) (i : ℕ) → i < length piece → now ≡ old ++ take i piece → length now ≡ length old + i
length_grown old now piece i within e =
    ap length e ∙ length-append old (take i piece) ∙ ap (λ n. length old + n) (length-take-le i piece (omega arith))

-- a test that fails up to i, and at i + 1, fails up to i + 1
pub fails_more : (f : ℕ → Bool) (i : ℕ) → ((j : ℕ) → 1 ≤ j → j ≤ i → f j ≡ false) → f (i + 1) ≡ false
    → (j : ℕ) → 1 ≤ j → j ≤ i + 1 → f j ≡ false
fails_more f i before here j some le =
    ⊎_elim (λ (lt : j < i + 1). before j some (omega arith))
    (λ (ge : i + 1 ≤ j). let e : j ≡ i + 1 = omega arith in subst (λ k. f k ≡ false) (sym e) here)
    (cases_lt j (i + 1))

-- ---- a prefix, and the whole

module _ (p g prefix rest : List ℕ) where
  pub finds-prefix : (j : ℕ) → j ≤ length prefix → finds p (g ++ take j (prefix ++ rest)) ≡ finds p (g ++ take j prefix)
  finds-prefix j le = ap (λ t. finds p (g ++ t)) (take-append-le j prefix rest le)

  pub IsHit-append : (k : ℕ) → IsHit p g prefix k → IsHit p g (prefix ++ rest) k
  IsHit-append k h =
      let within = h.within in let both = length-append prefix rest in record {
        some = h.some;
        within = omega arith;
        short = h.short;
        found = finds-prefix k within ∙ h.found;
        least = λ j some below. finds-prefix j (omega arith) ∙ h.least j some below;
      }

  pub HasNoHit-append : HasNoHit p g prefix → MOST_GATHERED ≤ length g + length prefix → HasNoHit p g (prefix ++ rest)
  HasNoHit-append none full = λ j some within short.
      let inside : j ≤ length prefix = omega arith in finds-prefix j inside ∙ none j some inside short

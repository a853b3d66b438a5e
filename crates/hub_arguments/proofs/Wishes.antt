-- Operands of a wait that say nothing.
use Rattle.std.proofs.Common.{◌≡◌, ℕ, ◌<◌, List, [], ◌∷◌, length, get_or, drop, codes, inl, inr, refl, sym, ap, ◌∙◌, subst, arith}
use Rattle.hub_arguments.specs.Wishes.{IsSpan, IsWant, Says}

-- how many begins with an `a`, and no state does
begins_with_a : (word : List ℕ) → IsSpan word → get_or word 0 0 ≡ 97
begins_with_a word (inl e) = ap (λ l. get_or l 0 0) e
begins_with_a word (inr e) = ap (λ l. get_or l 0 0) e

begins_without_a : (word : List ℕ) → IsWant word → get_or word 0 0 ≡ 97 → ⊥
begins_without_a word (inl e) a = let is = ap (λ l. get_or l 0 0) e in omega (arith, is, a)
begins_without_a word (inr (inl e)) a = let is = ap (λ l. get_or l 0 0) e in omega (arith, is, a)
begins_without_a word (inr (inr (inl e))) a = let is = ap (λ l. get_or l 0 0) e in omega (arith, is, a)
begins_without_a word (inr (inr (inr (inl e)))) a = let is = ap (λ l. get_or l 0 0) e in omega (arith, is, a)
begins_without_a word (inr (inr (inr (inr (inl e))))) a = let is = ap (λ l. get_or l 0 0) e in omega (arith, is, a)
begins_without_a word (inr (inr (inr (inr (inr e))))) a = let is = ap (λ l. get_or l 0 0) e in omega (arith, is, a)

pub no_both : (word : List ℕ) → IsSpan word → IsWant word → ⊥
no_both word span want = begins_without_a word want (begins_with_a word span)

head_of : {X : Type 0} (x y : X) (xs ys : List X) → x ∷ xs ≡ y ∷ ys → x ≡ y
head_of x y xs ys e = ap (λ l. get_or l 0 x) e

-- how many, and nothing behind it
pub says_nothing : (first : List ℕ) → IsSpan first → (span want : List ℕ) (names : List (List ℕ)) → Says (first ∷ []) span want names → ⊥
says_nothing first is span want names (some, wants, inl it) = let long = ap length it.0 in omega (arith, long)
says_nothing first is span want names (some, wants, inr it) = let long = ap length it.0 in omega (arith, long, some)

-- how many, and no state or no name behind it
pub says_no_state : (first state : List ℕ) (rest : List (List ℕ)) → IsSpan first → (IsWant state → 0 < length rest → ⊥)
    → (span want : List ℕ) (names : List (List ℕ)) → Says (first ∷ (state ∷ rest)) span want names → ⊥
says_no_state first state rest is none span want names (some, wants, inl it) =
    let tails : state ∷ rest ≡ want ∷ names = ap (drop 1) it.0 in
    let behind : rest ≡ names = ap (drop 1) tails in
    none (subst IsWant (sym (head_of state want rest names tails)) wants) (subst (λ l. 0 < length l) (sym behind) some)
says_no_state first state rest is none span want names (some, wants, inr it) =
    no_both first is (subst IsWant (sym (head_of first want (state ∷ rest) names it.0)) wants)

-- no state, or no name
pub says_no_name : (first : List ℕ) (rest : List (List ℕ)) → (IsSpan first → ⊥) → (IsWant first → 0 < length rest → ⊥)
    → (span want : List ℕ) (names : List (List ℕ)) → Says (first ∷ rest) span want names → ⊥
says_no_name first rest other none span want names (some, wants, inl it) = other (subst IsSpan (sym (head_of first span rest (want ∷ names) it.0)) it.1)
says_no_name first rest other none span want names (some, wants, inr it) =
    none (subst IsWant (sym (head_of first want rest names it.0)) wants) (subst (λ l. 0 < length l) (sym (ap (drop 1) it.0)) some)

pub says_all : (first : List ℕ) (rest : List (List ℕ)) → IsWant first → 0 < length rest → Says (first ∷ rest) (codes "all") first rest
says_all first rest is some = (some, is, inr (refl, refl))

pub says_both : (first state : List ℕ) (rest : List (List ℕ)) → IsSpan first → IsWant state → 0 < length rest → Says (first ∷ (state ∷ rest)) first state rest
says_both first state rest is wants some = (some, wants, inl (refl, is))

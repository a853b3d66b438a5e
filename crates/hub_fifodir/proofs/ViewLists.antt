-- Lists of views, if one view changes or a new one is added.
use Rattle.std.proofs.Common.{◌≡◌, ◌≢◌, ℕ, zero, suc, ◌<◌, List, [], ◌∷◌, ◌++◌, length, set, sym, ap, ◌∙◌, subst, ⊎_elim, arith}
use mathlib.Core.Logic.{dite}
use native.Mathlib.Decide.{ℕ_discrete}
use mathlib.Core.Option.{some, some-injective, some-ne-none}
use lib.ListN.{get_elem?}
use Rattle.atomic_table.proofs.Lists.{at_set, set_here, set_else, at_longer}
use Rattle.hub_fifodir.specs.declared.views.View.{View}
use Rattle.hub_fifodir.specs.Rule.{At, Somewhere}

pub within : (views : List View) (j : ℕ) (v : View) → get_elem? views j ≡ some v → j < length views
within [] j v e = absurd (some-ne-none v (sym e))
within (x ∷ xs) zero v e = omega arith
within (x ∷ xs) (suc j) v e = let h : j < length xs = within xs j v e in omega arith

pub all_set : (F : ℕ → View → Type 0) (views : List View) (j : ℕ) (w : View) → F j w → ((k : ℕ) (u : View) → k ≢ j → get_elem? views k ≡ some u → F k u)
    → (k : ℕ) (u : View) → get_elem? (set views j w) k ≡ some u → F k u
all_set F views j w mine others k u e = ⊎_elim (λ (x : (k ≡ j) × (w ≡ u)). subst (λ (y : ℕ × View). F y.0 y.1) (λ i. (sym x.0 i, x.1 i)) mine)
    (λ (x : (k ≢ j) × (get_elem? views k ≡ some u)). others k u x.0 x.1) (at_set views j k w u e)

pub same_at : (views : List View) (k : ℕ) (v u : View) → get_elem? views k ≡ some v → get_elem? views k ≡ some u → v ≡ u
same_at views k v u p q = some-injective v u (sym p ∙ q)

-- a fact about the view at k stays if the view at j becomes w and w has it if the old view had it
pub at_kept : (P : View → Type 0) (views : List View) (j : ℕ) (v w : View) (k : ℕ) → get_elem? views j ≡ some v → (P v → P w) → At views k P → At (set views j w) k P
at_kept P views j v w k at keep t = dite (ℕ_discrete k j)
    (λ same. (w, ap (get_elem? (set views j w)) same ∙ set_here views j w (within views j v at), keep (subst P (same_at views k t.0 v t.1 (ap (get_elem? views) same ∙ at)) t.2)))
    (λ other. (t.0, set_else views j k w other ∙ t.1, t.2))

pub at_own : (P : View → Type 0) (views : List View) (j : ℕ) (v w : View) → get_elem? views j ≡ some v → P w → At (set views j w) j P
at_own P views j v w at p = (w, set_here views j w (within views j v at), p)

pub at_more : (P : View → Type 0) (views : List View) (w : View) (k : ℕ) → At views k P → At (views ++ w ∷ []) k P
at_more P views w k t = (t.0, at_longer views (w ∷ []) k t.0 t.1, t.2)

pub all_more : (F : ℕ → View → Type 0) (views : List View) (w : View) → F (length views) w → ((k : ℕ) (u : View) → get_elem? views k ≡ some u → F k u)
    → (k : ℕ) (u : View) → get_elem? (views ++ w ∷ []) k ≡ some u → F k u
all_more F [] w mine others zero u e = subst (F 0) (some-injective w u e) mine
all_more F [] w mine others (suc k) u e = absurd (some-ne-none u (sym e))
all_more F (x ∷ xs) w mine others zero u e = others zero u e
all_more F (x ∷ xs) w mine others (suc k) u e = all_more (λ j. F (suc j)) xs w mine (λ i y p. others (suc i) y p) k u e

pub here : (P : View → Type 0) (views : List View) (j : ℕ) (v w : View) → get_elem? views j ≡ some v → P w → Somewhere (set views j w) P
here P views j v w at p = let t = at_own P views j v w at p in (j, t.0, t.1, t.2)

pub somewhere_more : (P : View → Type 0) (views : List View) (w : View) → Somewhere views P → Somewhere (views ++ w ∷ []) P
somewhere_more P views w t = let u = at_more P views w t.0 (t.1, t.2, t.3) in (t.0, u.0, u.1, u.2)

pub somewhere_kept : (P : View → Type 0) (views : List View) (j : ℕ) (v w : View) → get_elem? views j ≡ some v → (P v → P w) → Somewhere views P → Somewhere (set views j w) P
somewhere_kept P views j v w at keep t = let u = at_kept P views j v w t.0 at keep (t.1, t.2, t.3) in (t.0, u.0, u.1, u.2)

-- A value under a key that isn't there.
use Rattle.std.proofs.Common.{◌≡◌, Bool, List, [], ◌∷◌, Some, None, refl, ap, inl, inr}
use Rattle.std.proofs.lemmas.Bool.{cases_Bool}
use Rattle.std.specs.Map.{lookup, set_value}

some_none : {X : Type 0} (x : X) → Some x ≡ None → ⊥
some_none x e = cc

pub set_nowhere : {K X : Type 0} (test : K → Bool) (es : List (K × X)) (w : X) → lookup test es ≡ None → set_value test es w ≡ es
set_nowhere test [] w none = refl
set_nowhere test (e ∷ es) w none = elim (cases_Bool (test e.0)) [
  | inl t ↦ absurd (some_none e.1 (simp t at none))
  | inr t ↦ simp t (ap (λ l. e ∷ l) (set_nowhere test es w (simp t at none)))
]

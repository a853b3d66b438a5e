-- The fifodirs that a desk keeps, and those of the model, one after another.
use Rattle.std.proofs.Common.{◌≡◌, ℕ, if◌then◌else◌, List, [], ◌∷◌, ◌++◌, length, Some, None, is_some, refl, sym, ap, subst, ◌∙◌, inl, inr, suc, true≢false}
use Rattle.std.proofs.lemmas.Bool.{cases_Bool}
use Rattle.std.proofs.lemmas.Slice.Eq.{bytes_eq-Decides}
use Rattle.std.specs.Map.{lookup, set_value}
use Rattle.std.specs.Str.{bytes_eq}
use Rattle.hub_record.specs.Kept.{Represents}
use Rattle.hub_record.specs.World.{World}
use Rattle.hub_local.specs.Desks.{Fifodir, world_of, with_world}
use Rattle.hub_local.specs.Representing.{IsKept, AreKept}
use Rattle.hub_local.specs.declared.local_desk.LocalFifodir.{LocalFifodir}

module _ (name : List ℕ) where
  pub is_some-world_of : (es : List (List ℕ × LocalFifodir)) (fs : List Fifodir) → AreKept es fs → is_some (lookup (bytes_eq name) es) ≡ is_some (world_of fs name)
  is_some-world_of [] [] h = refl
  is_some-world_of [] (f ∷ fs) h = absurd h
  is_some-world_of (e ∷ es) [] h = absurd h
  is_some-world_of (e ∷ es) (f ∷ fs) h =
      let same = ap (bytes_eq name) h.0.name in
      let ih = is_some-world_of es fs h.1 in
      elim (cases_Bool (bytes_eq name f.name)) [ inl t ↦ simp (same, t) | inr t ↦ simp (same, t) ih ]

  pub none_kept : (es : List (List ℕ × LocalFifodir)) (fs : List Fifodir) → AreKept es fs → lookup (bytes_eq name) es ≡ None → world_of fs name ≡ None
  none_kept [] [] h e = refl
  none_kept [] (f ∷ fs) h e = absurd h
  none_kept (x ∷ es) [] h e = absurd h
  none_kept (x ∷ es) (f ∷ fs) h e =
      let same = ap (bytes_eq name) h.0.name in
      elim (cases_Bool (bytes_eq name f.name)) [
        | inl t ↦ (let k = simp (same, t) at e in cc)
        | inr t ↦ simp t (none_kept es fs h.1 (simp (same, t) at e))
      ]

  -- the world that a kept fifodir represents
  pub some_kept : (es : List (List ℕ × LocalFifodir)) (fs : List Fifodir) (r : LocalFifodir) → AreKept es fs → lookup (bytes_eq name) es ≡ Some r
      → (w : World) × (world_of fs name ≡ Some w) × Represents r.kept w
  some_kept [] [] r h e = absurd (let k : ⊥ = cc in k)
  some_kept [] (f ∷ fs) r h e = absurd h
  some_kept (x ∷ es) [] r h e = absurd h
  some_kept (x ∷ es) (f ∷ fs) r h e =
      let same = ap (bytes_eq name) h.0.name in
      elim (cases_Bool (bytes_eq name f.name)) [
        | inl t ↦ (let k = simp (same, t) at e in
            let is : x.1 ≡ r = cc in
            (f.world, simp t, subst (λ (z : LocalFifodir). Represents z.kept f.world) is h.0.world))
        | inr t ↦ (let g = some_kept es fs r h.1 (simp (same, t) at e) in (g.0, simp t g.1, g.2))
      ]

  -- another record under the name, and another world
  pub kept_set : (es : List (List ℕ × LocalFifodir)) (fs : List Fifodir) (r new : LocalFifodir) (w : World) → AreKept es fs → lookup (bytes_eq name) es ≡ Some r
      → new.reports ≡ r.reports → Represents new.kept w → AreKept (set_value (bytes_eq name) es new) (with_world fs name w)
  kept_set [] [] r new w h e n s = tt
  kept_set [] (f ∷ fs) r new w h e n s = absurd h
  kept_set (x ∷ es) [] r new w h e n s = absurd h
  kept_set (x ∷ es) (f ∷ fs) r new w h e n s =
      let same = ap (bytes_eq name) h.0.name in
      elim (cases_Bool (bytes_eq name f.name)) [
        | inl t ↦ (let k = simp (same, t) at e in
            let is : x.1 ≡ r = cc in
            simp (same, t) (record { name = h.0.name; reports = n ∙ sym (ap (λ (z : LocalFifodir). z.reports) is) ∙ h.0.reports; world = s }, h.1))
        | inr t ↦ simp (same, t) (h.0, kept_set es fs r new w h.1 (simp (same, t) at e) n s)
      ]

  pub with_world-same : (fs : List Fifodir) (w : World) → world_of fs name ≡ Some w → with_world fs name w ≡ fs
  with_world-same [] w e = refl
  with_world-same (f ∷ fs) w e =
      elim (cases_Bool (bytes_eq name f.name)) [
        | inl t ↦ (let k = simp t at e in let is : f.world ≡ w = cc in simp t (ap (λ (z : World). record f { world = z } ∷ fs) (sym is)))
        | inr t ↦ simp t (ap (λ (z : List Fifodir). f ∷ z) (with_world-same fs w (simp t at e)))
      ]

  -- another record under the name that represents the same world
  pub kept_still : (es : List (List ℕ × LocalFifodir)) (fs : List Fifodir) (r new : LocalFifodir) (w : World) → AreKept es fs → lookup (bytes_eq name) es ≡ Some r
      → world_of fs name ≡ Some w → new.reports ≡ r.reports → Represents new.kept w → AreKept (set_value (bytes_eq name) es new) fs
  kept_still es fs r new w h e is n s = subst (λ (z : List Fifodir). AreKept (set_value (bytes_eq name) es new) z) (with_world-same fs w is) (kept_set es fs r new w h e n s)

  pub world_of-push : (fs : List Fifodir) (f : Fifodir) (w : World) → world_of fs name ≡ Some w → world_of (fs ++ f ∷ []) name ≡ Some w
  world_of-push [] f w e = absurd (let k : ⊥ = cc in k)
  world_of-push (x ∷ fs) f w e =
      elim (cases_Bool (bytes_eq name x.name)) [ inl t ↦ (let k = simp t at e in simp t k) | inr t ↦ simp t (world_of-push fs f w (simp t at e)) ]

  -- the world under the name that is changed, and under any other
  pub world_of-with_world : (fs : List Fifodir) (v w : World) (q : List ℕ) → world_of fs name ≡ Some v
      → world_of (with_world fs name w) q ≡ (if bytes_eq q name then Some w else world_of fs q)
  world_of-with_world [] v w q e = absurd (let k : ⊥ = cc in k)
  world_of-with_world (f ∷ fs) v w q e =
      elim (cases_Bool (bytes_eq name f.name)) [
        | inl t ↦ (let is : name ≡ f.name = (bytes_eq-Decides name f.name).0 t in
            let same = ap (bytes_eq q) is in
            elim (cases_Bool (bytes_eq q f.name)) [ inl u ↦ simp (t, same, u) | inr u ↦ simp (t, same, u) ])
        | inr t ↦ (let ih = world_of-with_world fs v w q (simp t at e) in
            elim (cases_Bool (bytes_eq q f.name)) [
              | inl u ↦ (let is : q ≡ f.name = (bytes_eq-Decides q f.name).0 u in
                  elim (cases_Bool (bytes_eq q name)) [
                    | inl a ↦ (let other : q ≡ name = (bytes_eq-Decides q name).0 a in
                        absurd (true≢false (sym ((bytes_eq-Decides name f.name).1 (sym other ∙ is)) ∙ t)))
                    | inr a ↦ simp (t, u, a)
                  ])
              | inr u ↦ simp (t, u) ih
            ])
      ]

pub length-kept : (es : List (List ℕ × LocalFifodir)) (fs : List Fifodir) → AreKept es fs → length es ≡ length fs
length-kept [] [] h = refl
length-kept [] (f ∷ fs) h = absurd h
length-kept (e ∷ es) [] h = absurd h
length-kept (e ∷ es) (f ∷ fs) h = ap suc (length-kept es fs h.1)

pub kept_push : (es : List (List ℕ × LocalFifodir)) (fs : List Fifodir) (e : List ℕ × LocalFifodir) (f : Fifodir) → AreKept es fs → IsKept e f → AreKept (es ++ e ∷ []) (fs ++ f ∷ [])
kept_push [] [] e f h k = (k, tt)
kept_push [] (g ∷ fs) e f h k = absurd h
kept_push (d ∷ es) [] e f h k = absurd h
kept_push (d ∷ es) (g ∷ fs) e f h k = (h.0, kept_push es fs e f h.1 k)

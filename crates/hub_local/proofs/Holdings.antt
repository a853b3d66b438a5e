-- What the current handles hold, after each change.
use Rattle.std.proofs.Common.{◌≡◌, ℕ, ◌+◌, ◌<◌, ◌≤◌, true, false, List, [], ◌∷◌, ◌++◌, length, map, nat_eq, Option, Some, None, is_some, refl, sym, ap, subst, ◌∙◌, inl, inr, suc, true≢false, arith}
use Rattle.std.proofs.lemmas.Bool.{cases_Bool, eqb-true, ne_eqb}
use Rattle.std.specs.Map.{lookup, remove_entry, set_value}
use Rattle.std.specs.Str.{bytes_eq}
use Rattle.std.proofs.lemmas.Slice.Eq.{bytes_eq-Decides}
use Rattle.hub_record.specs.World.{World, Subscription, subscription_in, as_cancelled, after_cancel, after_cancel_for}
use Rattle.hub_local.specs.Desks.{Fifodir, Handle, world_of, with_world, active_from, without_holding, without_from, subscription_of, AreHeld, IsApart, AreApart, GoesOn, AllGoOn, end_in, without_held, with_holding_from}
use Rattle.hub_local.specs.declared.local_desk.Holding.{Holding}
use Rattle.hub_local.proofs.KeptFifodirs.{world_of-push, world_of-with_world}
use Rattle.hub_local.proofs.Worlds.{found_below, found_changed_other}

-- ---- the numbers

-- a number below the first isn't among them
pub none_below : (from : ℕ) (hs : List Handle) (n : ℕ) → n < from → lookup (nat_eq n) (active_from from hs) ≡ None
none_below from [] n l = refl
none_below from (h ∷ rest) n l =
    let no : nat_eq n from ≡ false = ne_eqb n from (λ (e : n ≡ from). omega arith) in
    let ih = none_below (from + 1) rest n (omega arith) in
    elim (cases_Bool h.current) [ inl st ↦ simp (st, no) ih | inr st ↦ simp st ih ]

-- nor is a number that wasn't given yet
pub none_above : (from : ℕ) (hs : List Handle) (n : ℕ) → from + length hs ≤ n → lookup (nat_eq n) (active_from from hs) ≡ None
none_above from [] n l = refl
none_above from (h ∷ rest) n l =
    let no : nat_eq n from ≡ false = ne_eqb n from (λ (e : n ≡ from). omega arith) in
    let ih = none_above (from + 1) rest n (omega arith) in
    elim (cases_Bool h.current) [ inl st ↦ simp (st, no) ih | inr st ↦ simp st ih ]

-- if the first number is found, it is current
pub current_first : (from : ℕ) (x : Handle) (rest : List Handle) (n : ℕ) (h : Holding) → nat_eq n from ≡ true → lookup (nat_eq n) (active_from from (x ∷ rest)) ≡ Some h → x.current ≡ true
current_first from x rest n h t e =
    elim (cases_Bool x.current) [
      | inl st ↦ st
      | inr st ↦ (let is : n ≡ from = eqb-true n from t in
          let none = none_below (from + 1) rest n (omega arith) in
          let k = simp st at e in absurd (let no : ⊥ = cc in no))
    ]

-- and another number is found behind it
pub found_behind : (from : ℕ) (x : Handle) (rest : List Handle) (n : ℕ) (h : Holding) → nat_eq n from ≡ false → lookup (nat_eq n) (active_from from (x ∷ rest)) ≡ Some h
    → lookup (nat_eq n) (active_from (from + 1) rest) ≡ Some h
found_behind from x rest n h t e = elim (cases_Bool x.current) [ inl st ↦ (let k = simp (st, t) at e in k) | inr st ↦ (let k = simp st at e in k) ]

pub active-push : (from : ℕ) (hs : List Handle) (h : Handle) (n : ℕ) → h.current ≡ true → n ≡ from + length hs → active_from from (hs ++ h ∷ []) ≡ active_from from hs ++ (n, h.holding) ∷ []
active-push from [] h n st is = let same : from ≡ n = omega arith in simp st (ap (λ (z : ℕ). (z, h.holding) ∷ []) same)
active-push from (x ∷ rest) h n st is =
    let ih = active-push (from + 1) rest h n st (omega arith) in
    elim (cases_Bool x.current) [ inl xs ↦ simp xs (ap (λ (z : List (ℕ × Holding)). (from, x.holding) ∷ z) ih) | inr xs ↦ simp xs ih ]

pub active-without : (from : ℕ) (hs : List Handle) (n : ℕ) (h : Holding) → lookup (nat_eq n) (active_from from hs) ≡ Some h
    → active_from from (without_from from hs n) ≡ remove_entry (nat_eq n) (active_from from hs)
active-without from [] n h e = refl
active-without from (x ∷ rest) n h e =
    elim (cases_Bool (nat_eq n from)) [
      | inl t ↦ (let st = current_first from x rest n h t e in simp (t, st))
      | inr t ↦ (let ih = active-without (from + 1) rest n h (found_behind from x rest n h t e) in
          elim (cases_Bool x.current) [ inl st ↦ simp (t, st) (ap (λ (z : List (ℕ × Holding)). (from, x.holding) ∷ z) ih) | inr st ↦ simp (t, st) ih ])
    ]

pub length-without : (from : ℕ) (hs : List Handle) (n : ℕ) → length (without_from from hs n) ≡ length hs
length-without from [] n = refl
length-without from (x ∷ rest) n = elim (cases_Bool (nat_eq n from)) [ inl t ↦ simp t | inr t ↦ simp t (ap suc (length-without (from + 1) rest n)) ]

pub active-dropped : (from : ℕ) (hs : List Handle) → active_from from (map without_holding hs) ≡ []
active-dropped from [] = refl
active-dropped from (h ∷ rest) = active-dropped (from + 1) rest

pub length-dropped : (hs : List Handle) → length (map without_holding hs) ≡ length hs
length-dropped [] = refl
length-dropped (h ∷ rest) = ap suc (length-dropped rest)

-- ---- the subscription of each is current

pub held_at : (fs : List Fifodir) (es : List (ℕ × Holding)) (n : ℕ) (h : Holding) → AreHeld fs es → lookup (nat_eq n) es ≡ Some h → is_some (subscription_of fs h) ≡ true
held_at fs [] n h k e = absurd (let no : ⊥ = cc in no)
held_at fs (x ∷ es) n h k e =
    elim (cases_Bool (nat_eq n x.0)) [
      | inl t ↦ (let z = simp t at e in let is : x.1 ≡ h = cc in subst (λ (g : Holding). is_some (subscription_of fs g) ≡ true) is k.0)
      | inr t ↦ held_at fs es n h k.1 (simp t at e)
    ]

pub held_still : (fs new : List Fifodir) → ((h : Holding) → is_some (subscription_of fs h) ≡ true → is_some (subscription_of new h) ≡ true)
    → (es : List (ℕ × Holding)) → AreHeld fs es → AreHeld new es
held_still fs new keep [] k = tt
held_still fs new keep (x ∷ es) k = (keep x.1 k.0, held_still fs new keep es k.1)

pub held_push : (fs : List Fifodir) (es : List (ℕ × Holding)) (e : ℕ × Holding) → AreHeld fs es → is_some (subscription_of fs e.1) ≡ true → AreHeld fs (es ++ e ∷ [])
held_push fs [] e k s = (s, tt)
held_push fs (x ∷ es) e k s = (k.0, held_push fs es e k.1 s)

-- ---- no two have the same subscription

apart_from_push : (h : Holding) (es : List (ℕ × Holding)) (e : ℕ × Holding) → IsApart h es → (h.name ≡ e.1.name → h.id ≡ e.1.id → ⊥) → IsApart h (es ++ e ∷ [])
apart_from_push h [] e k a = (a, tt)
apart_from_push h (x ∷ es) e k a = (k.0, apart_from_push h es e k.1 a)

-- a handle whose id isn't that of another one under its name
pub apart_push : (fs : List Fifodir) (es : List (ℕ × Holding)) (e : ℕ × Holding) → AreApart es → AreHeld fs es
    → ((h : Holding) → is_some (subscription_of fs h) ≡ true → h.name ≡ e.1.name → h.id ≡ e.1.id → ⊥) → AreApart (es ++ e ∷ [])
apart_push fs [] e k s new = (tt, tt)
apart_push fs (x ∷ es) e k s new = (apart_from_push x.1 es e k.0 (new x.1 s.0), apart_push fs es e k.1 s.1 new)

apart_at : (g : Holding) (es : List (ℕ × Holding)) (n : ℕ) (h : Holding) → IsApart g es → lookup (nat_eq n) es ≡ Some h → g.name ≡ h.name → g.id ≡ h.id → ⊥
apart_at g [] n h k e a b = cc
apart_at g (x ∷ es) n h k e a b =
    elim (cases_Bool (nat_eq n x.0)) [
      | inl t ↦ (let z = simp t at e in let is : x.1 ≡ h = cc in k.0 (a ∙ ap (λ (y : Holding). y.name) (sym is)) (b ∙ ap (λ (y : Holding). y.id) (sym is)))
      | inr t ↦ apart_at g es n h k.1 (simp t at e) a b
    ]

apart_from_removed : (h : Holding) (es : List (ℕ × Holding)) (n : ℕ) → IsApart h es → IsApart h (remove_entry (nat_eq n) es)
apart_from_removed h [] n k = tt
apart_from_removed h (x ∷ es) n k = elim (cases_Bool (nat_eq n x.0)) [ inl t ↦ simp t (k.1) | inr t ↦ simp t (k.0, apart_from_removed h es n k.1) ]

pub apart_removed : (es : List (ℕ × Holding)) (n : ℕ) → AreApart es → AreApart (remove_entry (nat_eq n) es)
apart_removed [] n k = tt
apart_removed (x ∷ es) n k = elim (cases_Bool (nat_eq n x.0)) [ inl t ↦ simp t (k.1) | inr t ↦ simp t (apart_from_removed x.1 es n k.0, apart_removed es n k.1) ]

-- a subscription that isn't the ended one is still current
held_beside : (fs new : List Fifodir) (g : Holding)
    → ((h : Holding) → (g.name ≡ h.name → g.id ≡ h.id → ⊥) → is_some (subscription_of fs h) ≡ true → is_some (subscription_of new h) ≡ true)
    → (es : List (ℕ × Holding)) → IsApart g es → AreHeld fs es → AreHeld new es
held_beside fs new g keep [] a k = tt
held_beside fs new g keep (x ∷ es) a k = (keep x.1 a.0 k.0, held_beside fs new g keep es a.1 k.1)

pub held_removed : (fs new : List Fifodir) (n : ℕ) (g : Holding)
    → ((h : Holding) → (g.name ≡ h.name → g.id ≡ h.id → ⊥) → is_some (subscription_of fs h) ≡ true → is_some (subscription_of new h) ≡ true)
    → (es : List (ℕ × Holding)) → AreApart es → AreHeld fs es → lookup (nat_eq n) es ≡ Some g → AreHeld new (remove_entry (nat_eq n) es)
held_removed fs new n g keep [] a k e = tt
held_removed fs new n g keep (x ∷ es) a k e =
    elim (cases_Bool (nat_eq n x.0)) [
      | inl t ↦ (let z = simp t at e in let is : x.1 ≡ g = cc in simp t (held_beside fs new g keep es (subst (λ (y : Holding). IsApart y es) is a.0) k.1))
      | inr t ↦ (let z = simp t at e in
          let other = apart_at x.1 es n g a.0 z in
          simp t (keep x.1 (λ same id. other (sym same) (sym id)) k.0, held_removed fs new n g keep es a.1 k.1 z))
    ]

-- ---- each may have more hits

pub go_on_push : (es : List (ℕ × Holding)) (e : ℕ × Holding) → AllGoOn es → GoesOn e.1.hearing → AllGoOn (es ++ e ∷ [])
go_on_push [] e k m = (m, tt)
go_on_push (x ∷ es) e k m = (k.0, go_on_push es e k.1 m)

pub go_on_removed : (es : List (ℕ × Holding)) (n : ℕ) → AllGoOn es → AllGoOn (remove_entry (nat_eq n) es)
go_on_removed [] n k = tt
go_on_removed (x ∷ es) n k = elim (cases_Bool (nat_eq n x.0)) [ inl t ↦ simp t (k.1) | inr t ↦ simp t (k.0, go_on_removed es n k.1) ]

-- ---- with another world under a name

module _ (fs : List Fifodir) (name : List ℕ) (w new : World) (is : world_of fs name ≡ Some w) where
  -- a subscription stays current if it does so in that world
  pub held_in_changed : (h : Holding) → (h.name ≡ name → is_some (subscription_in w h.id) ≡ true → is_some (subscription_in new h.id) ≡ true)
      → is_some (subscription_of fs h) ≡ true → is_some (subscription_of (with_world fs name new) h) ≡ true
  held_in_changed h keep s =
      elim (cases_Bool (bytes_eq h.name name)) [
        | inl t ↦ (let same : h.name ≡ name = (bytes_eq-Decides h.name name).0 t in
            let there : world_of fs h.name ≡ Some w = ap (world_of fs) same ∙ is in
            let k = simp there at s in
            simp (world_of-with_world name fs w new h.name is, t) (keep same k))
        | inr t ↦ simp (world_of-with_world name fs w new h.name is, t) s
      ]

  -- an id that this world hasn't given yet
  pub unheld_id : (h : Holding) → is_some (subscription_of fs h) ≡ true → h.name ≡ name → h.id ≡ length w.subscriptions + 1 → ⊥
  unheld_id h s same id =
      let there : world_of fs h.name ≡ Some w = ap (world_of fs) same ∙ is in
      let k = simp there at s in
      let below = found_below 1 w.subscriptions h.id k in
      omega arith

-- with one more fifodir
pub held_with_more : (fs : List Fifodir) (f : Fifodir) (h : Holding) → is_some (subscription_of fs h) ≡ true → is_some (subscription_of (fs ++ f ∷ []) h) ≡ true
held_with_more fs f h s = by (world_of fs h.name) refl
  where
    by : (o : Option World) → world_of fs h.name ≡ o → is_some (subscription_of (fs ++ f ∷ []) h) ≡ true
    by None e = let k = simp e at s in absurd (true≢false (sym k))
    by (Some w) e = let k = simp e at s in simp (world_of-push h.name fs f w e) k

-- ---- without the subscription of a handle

stopped_still : (w : World) (h g : Holding) → (h.id ≡ g.id → ⊥) → is_some (subscription_in w g.id) ≡ true → is_some (subscription_in (after_cancel w h.id) g.id) ≡ true
stopped_still w h g apart s = by (subscription_in w h.id)
  where
    by : (o : Option Subscription) → is_some (subscription_in (after_cancel_for w h.id o) g.id) ≡ true
    by None = s
    by (Some x) = found_changed_other as_cancelled 1 w.subscriptions h.id g.id (λ e. apart (sym e)) s

pub held_beside_cancelled : (fs : List Fifodir) (h g : Holding) → (h.name ≡ g.name → h.id ≡ g.id → ⊥) → is_some (subscription_of fs g) ≡ true → is_some (subscription_of (without_held fs h) g) ≡ true
held_beside_cancelled fs h g apart s = by (world_of fs h.name) refl
  where
    by : (o : Option World) → world_of fs h.name ≡ o → is_some (subscription_of (end_in fs h o) g) ≡ true
    by None e = s
    by (Some w) e = held_in_changed fs h.name w (after_cancel w h.id) e g (λ same k. stopped_still w h g (apart (sym same)) k) s

-- ---- another holding under a number, for the same subscription

pub active-with : (from : ℕ) (hs : List Handle) (n : ℕ) (h new : Holding) → lookup (nat_eq n) (active_from from hs) ≡ Some h
    → active_from from (with_holding_from from hs n new) ≡ set_value (nat_eq n) (active_from from hs) new
active-with from [] n h new e = refl
active-with from (x ∷ rest) n h new e =
    elim (cases_Bool (nat_eq n from)) [
      | inl t ↦ (let st = current_first from x rest n h t e in simp (t, st))
      | inr t ↦ (let ih = active-with (from + 1) rest n h new (found_behind from x rest n h t e) in
          elim (cases_Bool x.current) [ inl st ↦ simp (t, st) (ap (λ (z : List (ℕ × Holding)). (from, x.holding) ∷ z) ih) | inr st ↦ simp (t, st) ih ])
    ]

pub length-with : (from : ℕ) (hs : List Handle) (n : ℕ) (new : Holding) → length (with_holding_from from hs n new) ≡ length hs
length-with from [] n new = refl
length-with from (x ∷ rest) n new = elim (cases_Bool (nat_eq n from)) [ inl t ↦ simp t | inr t ↦ simp t (ap suc (length-with (from + 1) rest n new)) ]

pub lookup_set : (es : List (ℕ × Holding)) (n : ℕ) (h new : Holding) → lookup (nat_eq n) es ≡ Some h → lookup (nat_eq n) (set_value (nat_eq n) es new) ≡ Some new
lookup_set [] n h new e = absurd (let no : ⊥ = cc in no)
lookup_set (x ∷ es) n h new e = elim (cases_Bool (nat_eq n x.0)) [ inl t ↦ simp t | inr t ↦ simp t (lookup_set es n h new (simp t at e)) ]

pub held_set : (fs : List Fifodir) (es : List (ℕ × Holding)) (n : ℕ) (new : Holding) → AreHeld fs es → is_some (subscription_of fs new) ≡ true → AreHeld fs (set_value (nat_eq n) es new)
held_set fs [] n new k s = tt
held_set fs (x ∷ es) n new k s = elim (cases_Bool (nat_eq n x.0)) [ inl t ↦ simp t (s, k.1) | inr t ↦ simp t (k.0, held_set fs es n new k.1 s) ]

pub go_on_set : (es : List (ℕ × Holding)) (n : ℕ) (new : Holding) → AllGoOn es → GoesOn new.hearing → AllGoOn (set_value (nat_eq n) es new)
go_on_set [] n new k g = tt
go_on_set (x ∷ es) n new k g = elim (cases_Bool (nat_eq n x.0)) [ inl t ↦ simp t (g, k.1) | inr t ↦ simp t (k.0, go_on_set es n new k.1 g) ]

pub go_on_at : (es : List (ℕ × Holding)) (n : ℕ) (h : Holding) → AllGoOn es → lookup (nat_eq n) es ≡ Some h → GoesOn h.hearing
go_on_at [] n h k e = absurd (let no : ⊥ = cc in no)
go_on_at (x ∷ es) n h k e =
    elim (cases_Bool (nat_eq n x.0)) [
      | inl t ↦ (let z = simp t at e in let is : x.1 ≡ h = cc in subst (λ (y : Holding). GoesOn y.hearing) is k.0)
      | inr t ↦ go_on_at es n h k.1 (simp t at e)
    ]

-- ---- still no two have the same subscription

module _ (h new : Holding) (name : new.name ≡ h.name) (id : new.id ≡ h.id) where
  apart_like : (es : List (ℕ × Holding)) → IsApart h es → IsApart new es
  apart_like [] k = tt
  apart_like (x ∷ es) k = ((λ a b. k.0 (sym name ∙ a) (sym id ∙ b)), apart_like es k.1)

  apart_from_set : (g : Holding) (es : List (ℕ × Holding)) (n : ℕ) → lookup (nat_eq n) es ≡ Some h → IsApart g es → IsApart g (set_value (nat_eq n) es new)
  apart_from_set g [] n e k = tt
  apart_from_set g (x ∷ es) n e k =
      elim (cases_Bool (nat_eq n x.0)) [
        | inl t ↦ (let z = simp t at e in
            let is : h ≡ x.1 = cc in
            simp t ((λ a b. k.0 (a ∙ name ∙ ap (λ (y : Holding). y.name) is) (b ∙ id ∙ ap (λ (y : Holding). y.id) is)), k.1))
        | inr t ↦ simp t (k.0, apart_from_set g es n (simp t at e) k.1)
      ]

  pub apart_set : (es : List (ℕ × Holding)) (n : ℕ) → lookup (nat_eq n) es ≡ Some h → AreApart es → AreApart (set_value (nat_eq n) es new)
  apart_set [] n e k = tt
  apart_set (x ∷ es) n e k =
      elim (cases_Bool (nat_eq n x.0)) [
        | inl t ↦ (let z = simp t at e in
            let is : x.1 ≡ h = cc in
            simp t (apart_like es (subst (λ (y : Holding). IsApart y es) is k.0), k.1))
        | inr t ↦ simp t (apart_from_set x.1 es n (simp t at e) k.0, apart_set es n (simp t at e) k.1)
      ]

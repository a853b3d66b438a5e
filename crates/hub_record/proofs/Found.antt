-- Which subscription an id has, after each change.
use Rattle.std.proofs.Common.{ℕ, ◌≡◌, ◌+◌, ◌<◌, true, false, List, [], ◌∷◌, ◌++◌, length, Some, None, nat_eq, refl, sym, ap, ◌∙◌, inl, inr, arith}
use Rattle.std.proofs.lemmas.Bool.{cases_Bool, eqb-true, ne_eqb, eq-eqb}
use Rattle.hub_record.specs.World.{Subscription, found_from, changed_from, as_cancelled}

found_below : (from : ℕ) (subs : List Subscription) (id : ℕ) → id < from → found_from from subs id ≡ None
found_below from [] id low = refl
found_below from (s ∷ rest) id low =
    let no : nat_eq id from ≡ false = ne_eqb id from (λ e. omega arith) in
    simp no (found_below (from + 1) rest id (omega arith))

pub found_push : (from : ℕ) (subs more : List Subscription) (id : ℕ) → id < from + length subs → found_from from (subs ++ more) id ≡ found_from from subs id
found_push from [] more id given = found_below from more id (omega arith)
found_push from (s ∷ rest) more id given =
    elim (cases_Bool (nat_eq id from)) [
      | inl e ↦ simp e
      | inr e ↦ simp e (found_push (from + 1) rest more id (omega arith))
    ]

pub found_given : (from : ℕ) (subs : List Subscription) (id : ℕ) (s : Subscription) → found_from from subs id ≡ Some s → id < from + length subs
found_given from [] id s h = cc
found_given from (x ∷ rest) id s h =
    elim (cases_Bool (nat_eq id from)) [
      | inl e ↦ (let is : id ≡ from = eqb-true id from e in omega arith)
      | inr e ↦ (let more = found_given (from + 1) rest id s (simp e at h) in omega arith)
    ]

-- a change at another id
pub found_beside : (f : Subscription → Subscription) (from : ℕ) (subs : List Subscription) (other id : ℕ) → nat_eq id other ≡ false → found_from from (changed_from f from subs other) id ≡ found_from from subs id
found_beside f from [] other id differ = refl
found_beside f from (s ∷ rest) other id differ =
    elim (cases_Bool (nat_eq other from)) [
      | inl e ↦ (let is : other ≡ from = eqb-true other from e in
          let apart : nat_eq id from ≡ false = ap (nat_eq id) (sym is) ∙ differ in simp (e, apart))
      | inr e ↦ elim (cases_Bool (nat_eq id from)) [
        | inl t ↦ simp (e, t)
        | inr t ↦ simp (e, t) (found_beside f (from + 1) rest other id differ)
      ]
    ]

-- no change makes one current that wasn't
pub found_none : (f : Subscription → Subscription) → ((s : Subscription) → s.current ≡ false → (f s).current ≡ false) → (from : ℕ) (subs : List Subscription) (other id : ℕ) → found_from from subs id ≡ None → found_from from (changed_from f from subs other) id ≡ None
found_none f keep from [] other id h = refl
found_none f keep from (s ∷ rest) other id h =
    elim (cases_Bool (nat_eq other from)) [
      | inl e ↦ elim (cases_Bool (nat_eq id from)) [
        | inl t ↦ elim (cases_Bool s.current) [
          | inl st ↦ (let k = simp (t, st) at h in cc)
          | inr st ↦ (let still : (f s).current ≡ false = keep s st in simp (e, t, still))
        ]
        | inr t ↦ simp (e, t) (simp t at h)
      ]
      | inr e ↦ elim (cases_Bool (nat_eq id from)) [
        | inl t ↦ elim (cases_Bool s.current) [
          | inl st ↦ (let k = simp (t, st) at h in cc)
          | inr st ↦ simp (e, t, st)
        ]
        | inr t ↦ simp (e, t) (found_none f keep (from + 1) rest other id (simp t at h))
      ]
    ]

pub found_cancelled : (from : ℕ) (subs : List Subscription) (id : ℕ) → found_from from (changed_from as_cancelled from subs id) id ≡ None
found_cancelled from [] id = refl
found_cancelled from (s ∷ rest) id =
    elim (cases_Bool (nat_eq id from)) [ inl e ↦ simp e | inr e ↦ simp e (found_cancelled (from + 1) rest id) ]

pub found_new : (from : ℕ) (subs : List Subscription) (s : Subscription) (id : ℕ) → s.current ≡ true → id ≡ from + length subs → found_from from (subs ++ s ∷ []) id ≡ Some s
found_new from [] s id st is = let e : nat_eq id from ≡ true = eq-eqb id from (omega arith) in simp (e, st)
found_new from (x ∷ rest) s id st is =
    let no : nat_eq id from ≡ false = ne_eqb id from (λ e. omega arith) in
    simp no (found_new (from + 1) rest s id st (omega arith))

-- no change that keeps marks gives a current subscription another mark
pub found_marked : (f : Subscription → Subscription) → ((s : Subscription) → (f s).mark ≡ s.mark) → ((s : Subscription) → (f s).current ≡ true → s.current ≡ true)
    → (from : ℕ) (subs : List Subscription) (other id mark : ℕ) → ((s : Subscription) → found_from from subs id ≡ Some s → s.mark ≡ mark)
    → (s : Subscription) → found_from from (changed_from f from subs other) id ≡ Some s → s.mark ≡ mark
found_marked f same was from [] other id mark has s h = cc
found_marked f same was from (x ∷ rest) other id mark has s h =
    elim (cases_Bool (nat_eq other from)) [
      | inl e ↦ elim (cases_Bool (nat_eq id from)) [
        | inl t ↦ elim (cases_Bool (f x).current) [
          | inl st ↦ (let k = simp (e, t, st) at h in
              let is : f x ≡ s = cc in
              let before : x.current ≡ true = was x st in
              ap (λ (z : Subscription). z.mark) (sym is) ∙ same x ∙ has x (simp (t, before)))
          | inr st ↦ (let k = simp (e, t, st) at h in cc)
        ]
        | inr t ↦ has s (simp t (simp (e, t) at h))
      ]
      | inr e ↦ elim (cases_Bool (nat_eq id from)) [
        | inl t ↦ has s (simp t (simp (e, t) at h))
        | inr t ↦ found_marked f same was (from + 1) rest other id mark (λ z g. has z (simp t g)) s (simp (e, t) at h)
      ]
    ]

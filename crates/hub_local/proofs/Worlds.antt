-- The subscriptions of a world, after each change.
use Rattle.std.proofs.Common.{◌≡◌, ℕ, ◌+◌, ◌<◌, true, false, List, [], ◌∷◌, ◌++◌, length, nat_eq, Option, None, Some, Err, is_some, sym, ◌∙◌, inl, inr, true≢false, arith}
use Rattle.std.proofs.lemmas.Bool.{cases_Bool, eqb-true, ne_eqb, eq-eqb}
use Rattle.hub_record.specs.declared.NoId.{NoId}
use Rattle.hub_record.proofs.Taking.{shows_by}
use Rattle.hub_record.specs.World.{World, subscription_in, reply_for, take_reply, Subscription, found_from, changed_from}

-- one more subscription
pub found-push : (from : ℕ) (subs : List Subscription) (s : Subscription) (id : ℕ) → is_some (found_from from subs id) ≡ true → is_some (found_from from (subs ++ s ∷ []) id) ≡ true
found-push from [] s id h = absurd (true≢false (sym h))
found-push from (x ∷ rest) s id h =
    elim (cases_Bool (nat_eq id from)) [
      | inl e ↦ (let k = simp e at h in simp e k)
      | inr e ↦ simp e (found-push (from + 1) rest s id (simp e at h))
    ]

-- the next id is that of the new one
pub found_new : (from : ℕ) (subs : List Subscription) (s : Subscription) (id : ℕ) → s.current ≡ true → id ≡ from + length subs → is_some (found_from from (subs ++ s ∷ []) id) ≡ true
found_new from [] s id st is = let e : nat_eq id from ≡ true = eq-eqb id from (omega arith) in simp (e, st)
found_new from (x ∷ rest) s id st is =
    let e : nat_eq id from ≡ false = ne_eqb id from (λ (same : id ≡ from). omega arith) in
    simp e (found_new (from + 1) rest s id st (omega arith))

-- and no current one has it
pub found_below : (from : ℕ) (subs : List Subscription) (id : ℕ) → is_some (found_from from subs id) ≡ true → id < from + length subs
found_below from [] id h = absurd (true≢false (sym h))
found_below from (x ∷ rest) id h =
    elim (cases_Bool (nat_eq id from)) [
      | inl e ↦ (let is : id ≡ from = eqb-true id from e in omega arith)
      | inr e ↦ (let ih = found_below (from + 1) rest id (simp e at h) in omega arith)
    ]

-- a change to one leaves the others as they are
pub found_changed_other : (f : Subscription → Subscription) (from : ℕ) (subs : List Subscription) (id other : ℕ) → (other ≡ id → ⊥)
    → is_some (found_from from subs other) ≡ true → is_some (found_from from (changed_from f from subs id) other) ≡ true
found_changed_other f from [] id other apart h = h
found_changed_other f from (x ∷ rest) id other apart h =
    elim (cases_Bool (nat_eq id from)) [
      | inl e ↦ (let is : id ≡ from = eqb-true id from e in
          let o : nat_eq other from ≡ false = ne_eqb other from (λ (same : other ≡ from). apart (same ∙ sym is)) in
          let k = simp o at h in simp (e, o) k)
      | inr e ↦ elim (cases_Bool (nat_eq other from)) [
        | inl o ↦ (let k = simp o at h in simp (e, o) k)
        | inr o ↦ simp (e, o) (found_changed_other f (from + 1) rest id other apart (simp o at h))
      ]
    ]

-- as does a change that leaves it current
pub found_changed : (f : Subscription → Subscription) → ((s : Subscription) → (f s).current ≡ s.current) → (from : ℕ) (subs : List Subscription) (id other : ℕ)
    → is_some (found_from from subs other) ≡ true → is_some (found_from from (changed_from f from subs id) other) ≡ true
found_changed f keep from [] id other h = h
found_changed f keep from (x ∷ rest) id other h =
    elim (cases_Bool (nat_eq other from)) [
      | inl o ↦ elim (cases_Bool x.current) [
        | inl st ↦ (let also : (f x).current ≡ true = keep x ∙ st in
            elim (cases_Bool (nat_eq id from)) [ inl e ↦ simp (e, o, also) | inr e ↦ simp (e, o, st) ])
        | inr st ↦ (let k = simp (o, st) at h in absurd (true≢false (sym k)))
      ]
      | inr o ↦ (let k = simp o at h in
          elim (cases_Bool (nat_eq id from)) [
            | inl e ↦ simp (e, o) k
            | inr e ↦ simp (e, o) (found_changed f keep (from + 1) rest id other k)
          ])
    ]

-- a take from a current subscription isn't refused
pub takes_some : (w : World) (id most : ℕ) (error : NoId) → is_some (subscription_in w id) ≡ true → Err error ≡ take_reply w id most → ⊥
takes_some w id most error s e = by (subscription_in w id) s e
  where
    by : (o : Option Subscription) → is_some o ≡ true → Err error ≡ reply_for w most o → ⊥
    by None t h = true≢false (sym t)
    by (Some x) t h = shows_by w most x (Err error) h

-- Subscriptions by id, if one is changed or a new one is added, and the cursors of a world.
use Rattle.std.proofs.Common.{ℕ, ◌≡◌, ◌≢◌, ◌+◌, ◌<◌, ◌≤◌, true, false, List, [], ◌∷◌, ◌++◌, length, Option, Some, None, Err, nat_eq, refl, sym, ap, subst, ◌∙◌, inl, inr, arith}
use Rattle.std.proofs.lemmas.Bool.{ne_eqb, eq-eqb, eqb-true, cases_Bool}
use Rattle.std.specs.Option.{option_map}
use Rattle.hub_record.specs.declared.SubError.{SubError}
use Rattle.hub_record.specs.declared.SubError.TheVariants as sub
use Rattle.hub_record.specs.declared.limits.Limits.{Limits}
use Rattle.hub_record.specs.declared.limits.TheConstants.{MOST_PASSES}
use Rattle.hub_record.specs.World.{World, Subscription, IsWorld, SubscribeReply, subscription_in, current_from, found_from, changed_from, as_cancelled}
use Rattle.hub_record.specs.Kept.{Kept, Represents}
use Rattle.hub_record.proofs.Cursors.{lookup_current}
use Rattle.hub_fifodir.specs.Passes.{MayRefuseBy}
use Rattle.hub_fifodir.specs.Rule.{cursor_of, IsGiven}

pub found_changed : (f : Subscription → Subscription) (from : ℕ) (subs : List Subscription) (id : ℕ) (s : Subscription) → found_from from subs id ≡ Some s → (f s).current ≡ true → found_from from (changed_from f from subs id) id ≡ Some (f s)
found_changed f from [] id s h st = cc
found_changed f from (x ∷ rest) id s h st =
    elim (cases_Bool (nat_eq id from)) [
      | inl e ↦ elim (cases_Bool x.current) [
        | inl xs ↦ (let k = simp (e, xs) at h in let is : x ≡ s = cc in
            let also : (f x).current ≡ true = ap (λ (z : Subscription). (f z).current) is ∙ st in
            simp (e, also) (ap (λ (z : Subscription). Some (f z)) is))
        | inr xs ↦ (let k = simp (e, xs) at h in cc)
      ]
      | inr e ↦ simp (e, e) (found_changed f (from + 1) rest id s (simp e at h) st)
    ]

pub found_stopped : (from : ℕ) (subs : List Subscription) (id : ℕ) (s : Subscription) → found_from from subs id ≡ Some s → found_from from (changed_from as_cancelled from subs id) id ≡ None
found_stopped from [] id s h = cc
found_stopped from (x ∷ rest) id s h =
    elim (cases_Bool (nat_eq id from)) [
      | inl e ↦ simp e
      | inr e ↦ simp (e, e) (found_stopped (from + 1) rest id s (simp e at h))
    ]

pub found_else : (f : Subscription → Subscription) (from : ℕ) (subs : List Subscription) (id i : ℕ) → i ≢ id → found_from from (changed_from f from subs id) i ≡ found_from from subs i
found_else f from [] id i n = refl
found_else f from (x ∷ rest) id i n =
    elim (cases_Bool (nat_eq id from)) [
      | inl e ↦ (let no : nat_eq i from ≡ false = ne_eqb i from (λ k. n (k ∙ sym (eqb-true id from e))) in simp (e, no))
      | inr e ↦ elim (cases_Bool (nat_eq i from)) [
        | inl t ↦ simp (e, t)
        | inr t ↦ simp (e, t) (found_else f (from + 1) rest id i n)
      ]
    ]

pub found_new : (from : ℕ) (subs : List Subscription) (s : Subscription) (id : ℕ) → id ≡ from + length subs → s.current ≡ true → found_from from (subs ++ s ∷ []) id ≡ Some s
found_new from [] s id is st = let e : nat_eq id from ≡ true = eq-eqb id from (omega arith) in simp (e, st)
found_new from (x ∷ rest) s id is st = let e : nat_eq id from ≡ false = ne_eqb id from (λ k. absurd (omega arith)) in simp e (found_new (from + 1) rest s id (omega arith) st)

pub found_old : (from : ℕ) (subs : List Subscription) (s : Subscription) (i : ℕ) → i ≢ from + length subs → found_from from (subs ++ s ∷ []) i ≡ found_from from subs i
found_old from [] s i n = let e : nat_eq i from ≡ false = ne_eqb i from (λ k. n (omega arith)) in simp e
found_old from (x ∷ rest) s i n =
    elim (cases_Bool (nat_eq i from)) [
      | inl e ↦ simp e
      | inr e ↦ simp e (found_old (from + 1) rest s i (λ k. n (omega arith)))
    ]

found_given : (from : ℕ) (subs : List Subscription) (i : ℕ) (s : Subscription) → found_from from subs i ≡ Some s → (from ≤ i) × (i < from + length subs)
found_given from [] i s h = cc
found_given from (x ∷ rest) i s h =
    elim (cases_Bool (nat_eq i from)) [
      | inl e ↦ (let is : i ≡ from = eqb-true i from e in (omega arith, omega arith))
      | inr e ↦ (let k = found_given (from + 1) rest i s (simp e at h) in let a = k.0 in let b = k.1 in (omega arith, omega arith))
    ]

-- ---- the cursors of a record that represents a world

abbrev pub next_of : Option Subscription → Option ℕ
next_of o = option_map (λ (s : Subscription). s.next) o

pub cursor_found : (r : Kept) (w : World) (i : ℕ) → Represents r w → cursor_of r.cursors i ≡ next_of (subscription_in w i)
cursor_found r w i h = ap (λ c. cursor_of c i) h.cursors ∙ lookup_current 1 w.subscriptions i

-- the current subscription of a cursor
pub subscription_of : (o : Option Subscription) (next : ℕ) → next_of o ≡ Some next → (s : Subscription) × (o ≡ Some s) × (s.next ≡ next)
subscription_of None next h = cc
subscription_of (Some s) next h = (s, refl, cc)

pub cursor_given : (r : Kept) (w : World) (i next : ℕ) → Represents r w → cursor_of r.cursors i ≡ Some next → IsGiven i r.given
cursor_given r w i next h at =
    let s = subscription_of (subscription_in w i) next (sym (cursor_found r w i h) ∙ at) in
    let g = found_given 1 w.subscriptions i s.0 s.1 in
    let a = g.0 in let b = g.1 in let n = h.given in (omega arith, omega arith)

pub found_active : (from : ℕ) (subs : List Subscription) (i : ℕ) (s : Subscription) → found_from from subs i ≡ Some s → s.current ≡ true
found_active from [] i s h = cc
found_active from (x ∷ rest) i s h =
    elim (cases_Bool (nat_eq i from)) [
      | inl e ↦ elim (cases_Bool x.current) [
        | inl xs ↦ (let k = simp (e, xs) at h in let is : x ≡ s = cc in ap (λ (z : Subscription). z.current) (sym is) ∙ xs)
        | inr xs ↦ (let k = simp (e, xs) at h in cc)
      ]
      | inr e ↦ found_active (from + 1) rest i s (simp e at h)
    ]

-- ---- why there is no ticket

few_current : (from : ℕ) (subs : List Subscription) → length (current_from from subs) ≤ length subs
few_current from [] = omega arith
few_current from (s ∷ rest) =
    let few = few_current (from + 1) rest in
    elim (cases_Bool s.current) [ inl st ↦ simp st (omega arith) | inr st ↦ simp st (omega arith) ]

pub may_refuse : (w : World) (limits : Limits) (e : SubError) → IsWorld w → w.limits ≡ limits → SubscribeReply w (Err e) → MayRefuseBy limits e
may_refuse w limits sub.Many i is reply =
    let few = few_current 1 w.subscriptions in let given = i.given in let many = reply.1 in
    subst (λ (l : Limits). MOST_PASSES ≤ l.ids) is (omega arith)
may_refuse w limits e i is reply = tt

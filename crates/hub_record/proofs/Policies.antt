-- What is active in a world, by its policy, and the bound on what is pending.
use Rattle.std.proofs.Common.{ℕ, ◌≡◌, ◌+◌, ◌-◌, ◌≤◌, ◌⊎◌, not, ◌&&◌, Bool, true, false, if◌then◌else◌, List, [], ◌∷◌, Some, filter, length, min, nat_eq, refl, sym, ap, ◌∙◌, inl, inr, arith}
use Rattle.std.proofs.lemmas.Bool.{cases_Bool, le-ltb, ltb-false}
use Rattle.std.specs.Map.{lookup}
use Rattle.hub_record.specs.declared.limits.Policy.{Policy}
use Rattle.hub_record.specs.declared.limits.Policy.TheVariants.{Hold, Evict}
use Rattle.hub_record.specs.World.{World, Subscription, IsWorld, current, active, is_slow, evicts, is_evicted, count_to_take, least, base, load}
use Rattle.hub_record.specs.Backlog.{active_in, lowest_in}
use Rattle.hub_record.proofs.Active.{least_bound_at}
use Rattle.hub_record.proofs.Slow.{lowest_near, lowest_bound_at, none_is_slow}

policy_is : (p : Policy) → (p ≡ Hold) ⊎ (p ≡ Evict)
policy_is Hold = inl refl
policy_is Evict = inr refl

-- the active cursors with this policy
by_policy : Policy → World → List (ℕ × ℕ)
by_policy p w = filter (λ c. not (evicts p && is_slow w.limits.waiting (length w.events) c.1)) (current w)

all_of : (cs : List (ℕ × ℕ)) → filter (λ (c : ℕ × ℕ). true) cs ≡ cs
all_of [] = refl
all_of (c ∷ cs) = ap (λ z. c ∷ z) (all_of cs)

pub active_hold : (w : World) → w.limits.policy ≡ Hold → active w ≡ current w
unfolding by_policy
active_hold w is = ap (λ p. by_policy p w) is ∙ all_of (current w)

active_evict : (w : World) → w.limits.policy ≡ Evict → active w ≡ active_in w.limits.waiting (length w.events) (current w)
unfolding by_policy
active_evict w is = ap (λ p. by_policy p w) is

-- with the policy Hold, no more is pending for any current subscription than may be
abbrev pub Holds : World → Type 0
Holds w = w.limits.policy ≡ Hold → length w.events ≤ least (length w.events) (current w) + w.limits.waiting

pub loaded_by : (w : World) → Holds w → load w ≤ w.limits.waiting
loaded_by w h = elim (policy_is w.limits.policy) [
  | inl hold ↦ (let k = h hold in let s = ap (least (length w.events)) (active_hold w hold) in omega arith)
  | inr evict ↦ (let k = lowest_near w.limits.waiting (length w.events) (current w) in let s = ap (least (length w.events)) (active_evict w evict) in omega arith)
]

pub holds : (w : World) → IsWorld w → Holds w
holds w i hold = let k = i.loaded in let s = ap (least (length w.events)) (active_hold w hold) in omega arith

pub active_is : (w : World) → IsWorld w → active w ≡ active_in w.limits.waiting (length w.events) (current w)
active_is w i = elim (policy_is w.limits.policy) [
  | inl hold ↦ active_hold w hold ∙ sym (none_is_slow w.limits.waiting (length w.events) (current w) (holds w i hold))
  | inr evict ↦ active_evict w evict
]

pub base_is_lowest : (w : World) → IsWorld w → base w ≡ lowest_in w.limits.waiting (length w.events) (current w)
base_is_lowest w i = ap (least (length w.events)) (active_is w i)

-- a current subscription is evicted if it is slow, and with the policy Hold none is slow
pub evicted_is_slow : (w : World) (id next : ℕ) → IsWorld w → lookup (nat_eq id) (current w) ≡ Some next → is_evicted w next ≡ is_slow w.limits.waiting (length w.events) next
evicted_is_slow w id next i e = elim (policy_is w.limits.policy) [
  | inl hold ↦ (let k = holds w i hold in
      let low = least_bound_at (length w.events) (nat_eq id) (current w) next e in
      ap (λ p. evicts p && is_slow w.limits.waiting (length w.events) next) hold ∙ sym (le-ltb w.limits.waiting (length w.events - next) (omega arith)))
  | inr evict ↦ ap (λ p. evicts p && is_slow w.limits.waiting (length w.events) next) evict
]

-- the base is at the next of an active subscription, or below it
pub base_bound : (w : World) (id next : ℕ) → IsWorld w → lookup (nat_eq id) (current w) ≡ Some next → is_evicted w next ≡ false → base w ≤ next
base_bound w id next i e up =
    let low = base_is_lowest w i in
    let bound = lowest_bound_at w.limits.waiting (length w.events) (nat_eq id) (current w) next e (sym (evicted_is_slow w id next i e) ∙ up) in
    omega arith

-- and with the policy Hold no more is pending for a current one than may be
pub hold_bound : (w : World) (id next : ℕ) → IsWorld w → lookup (nat_eq id) (current w) ≡ Some next → w.limits.policy ≡ Hold → length w.events ≤ next + w.limits.waiting
hold_bound w id next i e hold =
    let low = least_bound_at (length w.events) (nat_eq id) (current w) next e in
    let all = holds w i hold in
    omega arith

-- no more is taken than is pending
pub count_within : (w : World) (s : Subscription) (most : ℕ) → count_to_take w s most ≤ length w.events - s.next
count_within w s most = elim (cases_Bool (is_evicted w s.next)) [ inl e ↦ simp e (omega arith) | inr e ↦ simp e (omega arith) ]

pub count_none : (w : World) (s : Subscription) (most : ℕ) → most ≡ 0 → count_to_take w s most ≡ 0
count_none w s most none = elim (cases_Bool (is_evicted w s.next)) [ inl e ↦ simp e | inr e ↦ simp e (omega arith) ]

-- a subscription that goes on isn't evicted by that, nor is one at the end
pub goes_on_up : (w : World) (next more : ℕ) → is_evicted w next ≡ false → is_evicted w (next + more) ≡ false
goes_on_up w next more up = elim (cases_Bool (evicts w.limits.policy)) [
  | inl e ↦ (let near = ltb-false w.limits.waiting (length w.events - next) (sym (ap (λ b. b && is_slow w.limits.waiting (length w.events) next) e) ∙ up) in
      ap (λ b. b && is_slow w.limits.waiting (length w.events) (next + more)) e ∙ le-ltb w.limits.waiting (length w.events - (next + more)) (omega arith))
  | inr e ↦ ap (λ b. b && is_slow w.limits.waiting (length w.events) (next + more)) e
]

pub end_up : (w : World) (next : ℕ) → length w.events ≤ next → is_evicted w next ≡ false
end_up w next at = elim (cases_Bool (evicts w.limits.policy)) [
  | inl e ↦ ap (λ b. b && is_slow w.limits.waiting (length w.events) next) e ∙ le-ltb w.limits.waiting (length w.events - next) (omega arith)
  | inr e ↦ ap (λ b. b && is_slow w.limits.waiting (length w.events) next) e
]

pub count_evicted : (w : World) (s : Subscription) (most : ℕ) → is_evicted w s.next ≡ true → count_to_take w s most ≡ 0
count_evicted w s most e = ap (λ (b : Bool). if b then 0 else min most (length w.events - s.next)) e

pub count_active : (w : World) (s : Subscription) (most : ℕ) → is_evicted w s.next ≡ false → count_to_take w s most ≡ min most (length w.events - s.next)
count_active w s most e = ap (λ (b : Bool). if b then 0 else min most (length w.events - s.next)) e

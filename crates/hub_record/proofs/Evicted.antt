-- An evicted subscription stays evicted.
use Rattle.std.proofs.Common.{ℕ, ◌≡◌, ◌-◌, ◌≤◌, ◌⊎◌, true, false, List, [], ◌∷◌, ◌++◌, length, nat_lt, nat_eq, Option, Some, None, Ok, refl, sym, ap, subst, ◌∙◌, inl, inr, ⊎_elim, arith}
use Rattle.std.proofs.lemmas.Bool.{cases_Bool, eqb-true, ltb-true, lt-ltb}
use Rattle.std.proofs.lemmas.List.{length-append}
use Rattle.hub_record.specs.declared.Event.{Event}
use Rattle.hub_record.specs.declared.Taken.TheVariants.{Evicted}
use Rattle.hub_record.specs.declared.runs.Call.{Call}
use Rattle.hub_record.specs.declared.runs.Call.TheVariants.{Subscribe, Publish, Take, Cancel}
use Rattle.hub_record.specs.declared.runs.Said.{Said}
use Rattle.hub_record.specs.declared.runs.Said.TheVariants.{Subscribed, Published}
use Rattle.hub_record.specs.World.{World, Subscription, is_slow, is_evicted, evicts, subscription_in, new_subscription, as_events, as_cancelled, moved_on, reply_for, take_reply, after_take_for, after_cancel_for}
use Rattle.hub_record.specs.Runs.{after_call, IsRun, world_after}
use Rattle.hub_record.specs.Laws.{IsOut, StaysOut, SaysOut}
use Rattle.hub_record.proofs.Cursors.{length-changed}
use Rattle.hub_record.proofs.Found.{found_push, found_given, found_beside, found_none, found_cancelled}
use Rattle.hub_record.proofs.Policies.{count_evicted}
use Rattle.hub_record.proofs.Taking.{take_still, reply_evicted}

-- more events leave it evicted
slow_longer : (most : ℕ) (events more : List Event) (next : ℕ) → is_slow most (length events) next ≡ true → is_slow most (length (events ++ more)) next ≡ true
slow_longer most events more next slow =
    let long = length-append events more in
    let past = ltb-true most (length events - next) slow in
    lt-ltb most (length (events ++ more) - next) (omega arith)

out_longer : (w : World) (more : List Event) (next : ℕ) → is_evicted w next ≡ true → is_evicted (record w { events = w.events ++ more }) next ≡ true
out_longer w more next out = elim (cases_Bool (evicts w.limits.policy)) [
  | inl e ↦ (let slow = simp e at out in simp e (slow_longer w.limits.waiting w.events more next slow))
  | inr e ↦ (let k = simp e at out in cc)
]

-- the id was given, and has no current subscription
IsGone : World → ℕ → Type 0
IsGone w id = (id ≤ length w.subscriptions) × (subscription_in w id ≡ None)

-- ---- a call at the evicted one, or after its end

out_take : (w : World) (other most id : ℕ) (s : Subscription) (o : Option Subscription) → nat_eq id other ≡ false → IsOut w id s → IsOut (after_take_for w other most o) id s
out_take w other most id s None differ out = out
out_take w other most id s (Some t) differ out = (found_beside (moved_on w most) 1 w.subscriptions other id differ ∙ out.0, out.1)

out_cancel : (w : World) (other id : ℕ) (s : Subscription) (o : Option Subscription) → IsOut w id s → IsOut (after_cancel_for w other o) id s ⊎ IsGone (after_cancel_for w other o) id
unfolding IsGone
out_cancel w other id s None out = inl out
out_cancel w other id s (Some t) out =
    let given = found_given 1 w.subscriptions id s out.0 in
    let long = length-changed as_cancelled 1 w.subscriptions other in
    elim (cases_Bool (nat_eq id other)) [
      | inl e ↦ (let is : id ≡ other = eqb-true id other e in
          inr (omega arith, subst (λ x. subscription_in (after_cancel_for w x (Some t)) id ≡ None) is (found_cancelled 1 w.subscriptions id)))
      | inr differ ↦ inl (found_beside as_cancelled 1 w.subscriptions other id differ ∙ out.0, out.1)
    ]

out_step : (w : World) (call : Call) (said : Said) (id : ℕ) (s : Subscription) → IsOut w id s → IsOut (after_call w call said) id s ⊎ IsGone (after_call w call said) id
out_step w Subscribe (Subscribed (Ok new)) id s out = inl (found_push 1 w.subscriptions (new_subscription w ∷ []) id (found_given 1 w.subscriptions id s out.0) ∙ out.0, out.1)
out_step w (Publish who message) (Published (Ok first)) id s out = inl (out.0, out_longer w (as_events who message) s.next out.1)
out_step w (Take other most) said id s out =
    elim (cases_Bool (nat_eq id other)) [
      | inl e ↦ (let is : id ≡ other = eqb-true id other e in
          let still = take_still w id most s out.0 (count_evicted w s most out.1) in
          inl (subst (λ x. IsOut (after_call w (Take x most) said) id s) is (subst (λ (v : World). IsOut v id s) (sym still) out)))
      | inr differ ↦ inl (out_take w other most id s (subscription_in w other) differ out)
    ]
out_step w (Cancel other) said id s out = out_cancel w other id s (subscription_in w other) out
out_step w call said id s out = inl out

gone_take : (w : World) (other most id : ℕ) (o : Option Subscription) → IsGone w id → IsGone (after_take_for w other most o) id
unfolding IsGone
gone_take w other most id None gone = gone
gone_take w other most id (Some t) gone = (
  (let long = length-changed (moved_on w most) 1 w.subscriptions other in let given = gone.0 in omega arith),
  found_none (moved_on w most) (λ s e. e) 1 w.subscriptions other id gone.1,
)

gone_cancel : (w : World) (other id : ℕ) (o : Option Subscription) → IsGone w id → IsGone (after_cancel_for w other o) id
unfolding IsGone
gone_cancel w other id None gone = gone
gone_cancel w other id (Some t) gone = (
  (let long = length-changed as_cancelled 1 w.subscriptions other in let given = gone.0 in omega arith),
  found_none as_cancelled (λ s e. refl) 1 w.subscriptions other id gone.1,
)

gone_step : (w : World) (call : Call) (said : Said) (id : ℕ) → IsGone w id → IsGone (after_call w call said) id
unfolding IsGone
gone_step w Subscribe (Subscribed (Ok new)) id gone =
    let given = gone.0 in let long = length-append w.subscriptions (new_subscription w ∷ []) in
    (omega arith, found_push 1 w.subscriptions (new_subscription w ∷ []) id (omega arith) ∙ gone.1)
gone_step w (Publish who message) (Published (Ok first)) id gone = gone
gone_step w (Take other most) said id gone = gone_take w other most id (subscription_in w other) gone
gone_step w (Cancel other) said id gone = gone_cancel w other id (subscription_in w other) gone
gone_step w call said id gone = gone

-- ---- runs

gone_run : (w : World) (calls : List Call) (replies : List Said) (id : ℕ) → IsGone w id → IsGone (world_after w calls replies) id
gone_run w [] replies id gone = gone
gone_run w (call ∷ calls) [] id gone = gone
gone_run w (call ∷ calls) (said ∷ rest) id gone = gone_run (after_call w call said) calls rest id (gone_step w call said id gone)

out_run : (w : World) (calls : List Call) (replies : List Said) (id : ℕ) (s : Subscription) → IsOut w id s → StaysOut (world_after w calls replies) id s
unfolding IsGone
out_run w [] replies id s out = inl out
out_run w (call ∷ calls) [] id s out = inl out
out_run w (call ∷ calls) (said ∷ rest) id s out =
    ⊎_elim (λ (still : IsOut (after_call w call said) id s). out_run (after_call w call said) calls rest id s still)
    (λ (gone : IsGone (after_call w call said) id). inr (gone_run (after_call w call said) calls rest id gone).1)
    (out_step w call said id s out)

pub stays_out : (w : World) (calls : List Call) (replies : List Said) (id : ℕ) (s : Subscription) → IsRun w calls replies → IsOut w id s → StaysOut (world_after w calls replies) id s
stays_out w calls replies id s run out = out_run w calls replies id s out

-- ---- what takes say

said_out : (w : World) (id most : ℕ) (o : Option Subscription) → subscription_in w id ≡ o → reply_for w most o ≡ Ok Evicted → (s : Subscription) × IsOut w id s
said_out w id most None at said = cc
said_out w id most (Some s) at said = elim (cases_Bool (is_evicted w s.next)) [
  | inl out ↦ (s, (at, out))
  | inr up ↦ elim (cases_Bool (nat_lt s.next (length w.events))) [
    | inl more ↦ (let k = simp (up, more) at said in cc)
    | inr none ↦ elim (cases_Bool w.closed) [ inl shut ↦ (let k = simp (up, none, shut) at said in cc) | inr unshut ↦ (let k = simp (up, none, unshut) at said in cc) ]
  ]
]

says_out : (w : World) (id most : ℕ) (s : Subscription) → StaysOut w id s → SaysOut w id most
says_out w id most s (inl out) = inl (ap (reply_for w most) out.0 ∙ reply_evicted w most s out.1)
says_out w id most s (inr gone) = inr (ap (reply_for w most) gone)

pub goes_on_saying : (w : World) (calls : List Call) (replies : List Said) (id most later : ℕ) → IsRun w calls replies → take_reply w id most ≡ Ok Evicted
    → SaysOut (world_after w calls replies) id later
goes_on_saying w calls replies id most later run said =
    let out = said_out w id most (subscription_in w id) refl said in
    says_out (world_after w calls replies) id later out.0 (out_run w calls replies id out.0 out.1)

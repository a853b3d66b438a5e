-- What was gathered, after each call.
use Rattle.std.proofs.Common.{ℕ, ◌≡◌, ◌+◌, ◌-◌, ◌≤◌, min, Bool, false, if◌then◌else◌, List, [], ◌∷◌, ◌++◌, length, take, drop, Vec, Option, Some, None, Ok, nat_eq, refl, sym, ap, ◌∙◌, inl, inr, append-nil, arith}
use Rattle.std.proofs.lemmas.Bool.{cases_Bool, ne_eqb}
use Rattle.std.specs.Map.{lookup, set_value}
use Rattle.std.specs.Option.{option_map, unwrap_or}
use Rattle.std.specs.Global.{Global}
use Rattle.std.proofs.lemmas.List.{drop_all, take_all, take-append-le, length-drop, length-take-le}
use Rattle.hub_record.specs.declared.Event.{Event}
use Rattle.hub_record.specs.declared.runs.Call.{Call}
use Rattle.hub_record.specs.declared.runs.Call.TheVariants.{Subscribe, Take, Cancel}
use Rattle.hub_record.specs.declared.runs.Said.{Said}
use Rattle.hub_record.specs.declared.runs.Said.TheVariants.{Subscribed}
use Rattle.hub_record.specs.World.{World, Subscription, is_evicted, subscription_in, pending_for, found_from, changed_from, new_subscription, events_to_take, moved_on, moved_for, take_events, SubscribeReply, count_to_take, as_cancelled, after_take, after_take_for, after_cancel_for}
use Rattle.hub_record.proofs.Policies.{count_evicted, count_active}
use Rattle.hub_record.specs.Runs.{gathered_from, lists_of, with_more_events, after_call}

pub gathered_changed : (f : Subscription → Subscription) → ((s : Subscription) → (f s).gathered ≡ s.gathered) → (from : ℕ) (subs : List Subscription) (id : ℕ) → gathered_from from (changed_from f from subs id) ≡ gathered_from from subs
gathered_changed f keep from [] id = refl
gathered_changed f keep from (s ∷ rest) id =
    elim (cases_Bool (nat_eq id from)) [
      | inl e ↦ simp e (ap (λ z. (from, z) ∷ gathered_from (from + 1) rest) (keep s))
      | inr e ↦ simp e (ap (λ z. (from, s.gathered) ∷ z) (gathered_changed f keep (from + 1) rest id))
    ]

pub gathered_cancel : (w : World) (id : ℕ) (o : Option Subscription) → gathered_from 1 (after_cancel_for w id o).subscriptions ≡ gathered_from 1 w.subscriptions
gathered_cancel w id None = refl
gathered_cancel w id (Some s) = gathered_changed as_cancelled (λ s. refl) 1 w.subscriptions id

pub gathered-push : (from : ℕ) (subs : List Subscription) (s : Subscription) (id : ℕ) → id ≡ from + length subs → gathered_from from (subs ++ s ∷ []) ≡ gathered_from from subs ++ (id, s.gathered) ∷ []
gathered-push from [] s id is = let same : from ≡ id = omega arith in ap (λ z. (z, s.gathered) ∷ []) same
gathered-push from (x ∷ rest) s id is = ap (λ z. (from, x.gathered) ∷ z) (gathered-push (from + 1) rest s id (omega arith))

pub gathered_at_cancel : (w : World) (call : Call) (said : Said) (id : ℕ) → call ≡ Cancel id → gathered_from 1 (after_call w call said).subscriptions ≡ gathered_from 1 w.subscriptions
gathered_at_cancel w call said id e = ap (λ k. gathered_from 1 (after_call w k said).subscriptions) e ∙ gathered_cancel w id (subscription_in w id)

-- the same change, if the two functions agree on the current subscription
pub changed_alike : (f g : Subscription → Subscription) (from : ℕ) (subs : List Subscription) (id : ℕ) (s : Subscription) → found_from from subs id ≡ Some s → f s ≡ g s → changed_from f from subs id ≡ changed_from g from subs id
changed_alike f g from [] id s e h = refl
changed_alike f g from (x ∷ rest) id s e h =
    elim (cases_Bool (nat_eq id from)) [
      | inl t ↦ elim (cases_Bool x.current) [
        | inl st ↦ (let k = simp (t, st) at e in
            let is : x ≡ s = cc in
            simp t (ap (λ z. z ∷ rest) (ap f is ∙ h ∙ ap g (sym is))))
        | inr st ↦ (let k = simp (t, st) at e in cc)
      ]
      | inr t ↦ simp t (ap (λ z. x ∷ z) (changed_alike f g (from + 1) rest id s (simp t at e) h))
    ]

-- to take as many as are pending, or fewer, is to take at most that many
pub take_alike : (w : World) (id most most' : ℕ) → ((s : Subscription) → subscription_in w id ≡ Some s → count_to_take w s most ≡ count_to_take w s most') → after_take w id most ≡ after_take w id most'
take_alike w id most most' h = by (subscription_in w id) refl
  where
    by : (o : Option Subscription) → subscription_in w id ≡ o → after_take_for w id most o ≡ after_take_for w id most' o
    by None is = refl
    by (Some s) is =
        let same = h s is in
        ap (λ z. record w { subscriptions = z }) (changed_alike (moved_on w most) (moved_on w most') 1 w.subscriptions id s is
        (ap (λ n. record s { next = s.next + n; gathered = s.gathered ++ take n (drop s.next w.events) }) same))

pub take_at : (w : World) (call : Call) (said : Said) (id most most' : ℕ) → call ≡ Take id most → ((s : Subscription) → subscription_in w id ≡ Some s → count_to_take w s most' ≡ count_to_take w s most) → after_take w id most' ≡ after_call w call said
take_at w call said id most most' e h = take_alike w id most' most h ∙ ap (λ k. after_call w k said) (sym e)

-- ---- what was gathered, as lists

pub lookup_lists : (test : ℕ → Bool) (es : List (ℕ × Vec Event Global)) → lookup test (lists_of es) ≡ option_map (λ (v : Vec Event Global). v.items) (lookup test es)
lookup_lists test [] = refl
lookup_lists test (e ∷ es) = elim (cases_Bool (test e.0)) [ inl t ↦ simp t | inr t ↦ simp t (lookup_lists test es) ]

pub lists_set : (id : ℕ) (es : List (ℕ × Vec Event Global)) (v v' : Vec Event Global) (more : List Event) → lookup (nat_eq id) es ≡ Some v → v'.items ≡ v.items ++ more → lists_of (set_value (nat_eq id) es v') ≡ with_more_events id more (lists_of es)
lists_set id [] v v' more e h = refl
lists_set id (x ∷ es) v v' more e h =
    elim (cases_Bool (nat_eq id x.0)) [
      | inl t ↦ (let k = simp t at e in let is : x.1 ≡ v = cc in simp t (ap (λ z. (x.0, z) ∷ lists_of es) (h ∙ ap (λ (z : Vec Event Global). z.items ++ more) (sym is))))
      | inr t ↦ simp t (ap (λ z. (x.0, x.1.items) ∷ z) (lists_set id es v v' more (simp t at e) h))
    ]

pub appended_nowhere : (id : ℕ) (more : List Event) (ls : List (ℕ × List Event)) → lookup (nat_eq id) ls ≡ None → with_more_events id more ls ≡ ls
appended_nowhere id more [] e = refl
appended_nowhere id more (x ∷ ls) e =
    elim (cases_Bool (nat_eq id x.0)) [
      | inl t ↦ (let k = simp t at e in cc)
      | inr t ↦ simp t (ap (λ z. x ∷ z) (appended_nowhere id more ls (simp t at e)))
    ]

appended_nothing : (id : ℕ) (ls : List (ℕ × List Event)) → with_more_events id [] ls ≡ ls
appended_nothing id [] = refl
appended_nothing id (x ∷ ls) =
    elim (cases_Bool (nat_eq id x.0)) [
      | inl t ↦ simp t (ap (λ z. (x.0, z) ∷ ls) (append-nil x.1))
      | inr t ↦ simp t (ap (λ z. x ∷ z) (appended_nothing id ls))
    ]

gathered_moved : (w : World) (most : ℕ) (from : ℕ) (subs : List Subscription) (id : ℕ) (s : Subscription) → found_from from subs id ≡ Some s → gathered_from from (changed_from (moved_on w most) from subs id) ≡ with_more_events id (events_to_take w s most) (gathered_from from subs)
gathered_moved w most from [] id s e = refl
gathered_moved w most from (x ∷ rest) id s e =
    elim (cases_Bool (nat_eq id from)) [
      | inl t ↦ elim (cases_Bool x.current) [
        | inl st ↦ (let k = simp (t, st) at e in
            let is : x ≡ s = cc in
            simp t (ap (λ (z : Subscription). (from, x.gathered ++ events_to_take w z most) ∷ gathered_from (from + 1) rest) is))
        | inr st ↦ (let k = simp (t, st) at e in cc)
      ]
      | inr t ↦ simp t (ap (λ z. (from, x.gathered) ∷ z) (gathered_moved w most (from + 1) rest id s (simp t at e)))
    ]

gathered_take : (w : World) (id most : ℕ) → gathered_from 1 (after_take w id most).subscriptions ≡ with_more_events id (take_events w id most) (gathered_from 1 w.subscriptions)
gathered_take w id most = by (subscription_in w id) refl
  where
    by : (o : Option Subscription) → subscription_in w id ≡ o → gathered_from 1 (after_take_for w id most o).subscriptions ≡ with_more_events id (moved_for w most o) (gathered_from 1 w.subscriptions)
    by None is = sym (appended_nothing id (gathered_from 1 w.subscriptions))
    by (Some s) is = gathered_moved w most 1 w.subscriptions id s is

-- how many are asked for, if at most what is pending is asked for
pub asks : (w : World) (id max waiting : ℕ) → waiting ≡ unwrap_or (pending_for w (subscription_in w id)) 0 → (s : Subscription) → subscription_in w id ≡ Some s → count_to_take w s (min waiting max) ≡ count_to_take w s max
asks w id max waiting e s is = elim (cases_Bool (is_evicted w s.next)) [
  | inl out ↦ count_evicted w s (min waiting max) out ∙ sym (count_evicted w s max out)
  | inr up ↦ (let k = e ∙ ap (λ o. unwrap_or (pending_for w o) 0) is ∙ ap (λ (b : Bool). unwrap_or (if b then None else Some (length w.events - s.next)) 0) up in
      let one = count_active w s (min waiting max) up in
      let all = count_active w s max up in
      omega arith)
]

-- such a slice is filled whole
pub whole : (w : World) (id max waiting : ℕ) (old new : List Event) → waiting ≡ unwrap_or (pending_for w (subscription_in w id)) 0 → length old ≡ min waiting max → new ≡ take_events w id (length old) ++ drop (length (take_events w id (length old))) old → new ≡ take_events w id (length old)
whole w id max waiting old new e l h = h ∙ ap (λ z. take_events w id (length old) ++ z) (drop_all (length (take_events w id (length old))) old (by (subscription_in w id) refl)) ∙ append-nil (take_events w id (length old))
  where
    by : (o : Option Subscription) → subscription_in w id ≡ o → length old ≤ length (moved_for w (length old) o)
    by None is = let k = e ∙ ap (λ o. unwrap_or (pending_for w o) 0) is in omega arith
    by (Some s) is = elim (cases_Bool (is_evicted w s.next)) [
      | inl out ↦ (let k = e ∙ ap (λ o. unwrap_or (pending_for w o) 0) is ∙ ap (λ (b : Bool). unwrap_or (if b then None else Some (length w.events - s.next)) 0) out in omega arith)
      | inr up ↦ (let k = e ∙ ap (λ o. unwrap_or (pending_for w o) 0) is ∙ ap (λ (b : Bool). unwrap_or (if b then None else Some (length w.events - s.next)) 0) up in
          let n = count_active w s (length old) up in
          let d = length-drop s.next w.events in
          let t = length-take-le (count_to_take w s (length old)) (drop s.next w.events) (omega arith) in
          omega arith)
    ]

pub gathered_at_take : (w : World) (call : Call) (said : Said) (id max waiting : ℕ) (old new : List Event) (before after : List (ℕ × List Event)) → call ≡ Take id max → waiting ≡ unwrap_or (pending_for w (subscription_in w id)) 0 → length old ≡ min waiting max → new ≡ take_events w id (length old) ++ drop (length (take_events w id (length old))) old → before ≡ gathered_from 1 w.subscriptions → after ≡ with_more_events id new before → after ≡ gathered_from 1 (after_call w call said).subscriptions
gathered_at_take w call said id max waiting old new before after c e l h b a =
    let same : after_take w id (length old) ≡ after_call w call said = take_at w call said id max (length old) c (λ s is. ap (count_to_take w s) l ∙ asks w id max waiting e s is) in
    a ∙ ap (λ z. with_more_events id z before) (whole w id max waiting old new e l h) ∙ ap (with_more_events id (take_events w id (length old))) b
    ∙ sym (gathered_take w id (length old)) ∙ ap (λ (v : World). gathered_from 1 v.subscriptions) same

fresh_list : (from : ℕ) (subs : List Subscription) (id : ℕ) → from + length subs ≤ id → lookup (nat_eq id) (gathered_from from subs) ≡ None
fresh_list from [] id h = refl
fresh_list from (s ∷ rest) id h =
    let no : nat_eq id from ≡ false = ne_eqb id from (λ e. omega arith) in
    simp no (fresh_list (from + 1) rest id (omega arith))

pub gathered_at_subscribe : (w : World) (call : Call) (id mark : ℕ) (before after : List (ℕ × List Event)) → call ≡ Subscribe → SubscribeReply w (Ok (id, mark)) → before ≡ gathered_from 1 w.subscriptions → (lookup (nat_eq id) before ≡ None → after ≡ before ++ (id, []) ∷ []) → after ≡ gathered_from 1 (after_call w call (Subscribed (Ok (id, mark)))).subscriptions
gathered_at_subscribe w call id mark before after c r b a =
    let is : id ≡ length w.subscriptions + 1 = ap (λ p. p.0) r.1 in
    a (ap (lookup (nat_eq id)) b ∙ fresh_list 1 w.subscriptions id (omega arith)) ∙ ap (λ z. z ++ (id, []) ∷ []) b
    ∙ sym (gathered-push 1 w.subscriptions (new_subscription w) id (omega arith))
    ∙ ap (λ k. gathered_from 1 (after_call w k (Subscribed (Ok (id, mark)))).subscriptions) (sym c)

none_within : (o : Option (Vec Event Global)) → option_map (λ (v : Vec Event Global). v.items) o ≡ None → o ≡ None
none_within None e = refl
none_within (Some v) e = cc

pub none_lists : (test : ℕ → Bool) (es : List (ℕ × Vec Event Global)) → lookup test (lists_of es) ≡ None → lookup test es ≡ None
none_lists test es e = none_within (lookup test es) (sym (lookup_lists test es) ∙ e)

pub lists-push : (es : List (ℕ × Vec Event Global)) (id : ℕ) (v : Vec Event Global) → v.items ≡ [] → lists_of (es ++ (id, v) ∷ []) ≡ lists_of es ++ (id, []) ∷ []
lists-push [] id v e = ap (λ z. (id, z) ∷ []) e
lists-push (x ∷ es) id v e = ap (λ z. (x.0, x.1.items) ∷ z) (lists-push es id v e)

-- a vector whose slice was written whole
pub rewritten : (n : ℕ) (a b : List Event) → length a ≡ n → take n (a ++ b) ≡ a
rewritten n a b e = take-append-le n a b (omega arith) ∙ take_all n a (omega arith)

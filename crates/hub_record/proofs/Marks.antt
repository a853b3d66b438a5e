-- A mark is the number of events at its subscribe, and stays so.
use Rattle.std.proofs.Common.{ℕ, ◌≡◌, ◌+◌, ◌≤◌, List, [], ◌∷◌, length, Option, Some, None, Ok, refl, sym, ap, ◌∙◌, arith}
use Rattle.std.proofs.lemmas.List.{length-append}
use Rattle.hub_record.specs.declared.runs.Call.{Call}
use Rattle.hub_record.specs.declared.runs.Call.TheVariants.{Subscribe, Publish, Take, Cancel}
use Rattle.hub_record.specs.declared.runs.Said.{Said}
use Rattle.hub_record.specs.declared.runs.Said.TheVariants.{Subscribed, Published}
use Rattle.hub_record.specs.World.{World, Subscription, subscription_in, new_subscription, as_cancelled, moved_on, after_take_for, after_cancel_for}
use Rattle.hub_record.specs.Runs.{SaidTo, after_call, IsRun, world_after}
use Rattle.hub_record.specs.Laws.{HasMark}
use Rattle.hub_record.proofs.Cursors.{length-changed}
use Rattle.hub_record.proofs.Found.{found_push, found_new, found_marked}

-- the id was given, and has this mark
IsMarked : World → ℕ → ℕ → Type 0
IsMarked w id mark = (id ≤ length w.subscriptions) × HasMark w id mark

marked_take : (w : World) (other most id mark : ℕ) (o : Option Subscription) → IsMarked w id mark → IsMarked (after_take_for w other most o) id mark
unfolding IsMarked
marked_take w other most id mark None h = h
marked_take w other most id mark (Some t) h = (
  (let long = length-changed (moved_on w most) 1 w.subscriptions other in let given = h.0 in omega arith),
  found_marked (moved_on w most) (λ s. refl) (λ s e. e) 1 w.subscriptions other id mark h.1,
)

marked_cancel : (w : World) (other id mark : ℕ) (o : Option Subscription) → IsMarked w id mark → IsMarked (after_cancel_for w other o) id mark
unfolding IsMarked
marked_cancel w other id mark None h = h
marked_cancel w other id mark (Some t) h = (
  (let long = length-changed as_cancelled 1 w.subscriptions other in let given = h.0 in omega arith),
  found_marked as_cancelled (λ s. refl) (λ s e. cc) 1 w.subscriptions other id mark h.1,
)

marked_step : (w : World) (call : Call) (said : Said) (id mark : ℕ) → IsMarked w id mark → IsMarked (after_call w call said) id mark
unfolding IsMarked
marked_step w Subscribe (Subscribed (Ok new)) id mark h =
    let given = h.0 in let long = length-append w.subscriptions (new_subscription w ∷ []) in
    (omega arith, λ s at. h.1 s (sym (found_push 1 w.subscriptions (new_subscription w ∷ []) id (omega arith)) ∙ at))
marked_step w (Publish who message) (Published (Ok first)) id mark h = h
marked_step w (Take other most) said id mark h = marked_take w other most id mark (subscription_in w other) h
marked_step w (Cancel other) said id mark h = marked_cancel w other id mark (subscription_in w other) h
marked_step w call said id mark h = h

marked_run : (w : World) (calls : List Call) (replies : List Said) (id mark : ℕ) → IsMarked w id mark → HasMark (world_after w calls replies) id mark
unfolding IsMarked
marked_run w [] replies id mark h = h.1
marked_run w (call ∷ calls) [] id mark h = h.1
marked_run w (call ∷ calls) (said ∷ rest) id mark h = marked_run (after_call w call said) calls rest id mark (marked_step w call said id mark h)

marked_first : (w : World) (id mark : ℕ) → SaidTo w Subscribe (Subscribed (Ok (id, mark))) → IsMarked (after_call w Subscribe (Subscribed (Ok (id, mark)))) id mark
unfolding IsMarked
marked_first w id mark said =
    let next : id ≡ length w.subscriptions + 1 = ap (λ (z : ℕ × ℕ). z.0) said.1 in
    let end : mark ≡ length w.events = ap (λ (z : ℕ × ℕ). z.1) said.1 in
    let long = length-append w.subscriptions (new_subscription w ∷ []) in
    let new = found_new 1 w.subscriptions (new_subscription w) id refl (omega arith) in
    (omega arith, λ s at. let is : new_subscription w ≡ s = some_is (sym new ∙ at) in ap (λ (z : Subscription). z.mark) (sym is) ∙ sym end)
  where
    some_is : {a b : Subscription} → Some a ≡ Some b → a ≡ b
    some_is e = cc

pub mark_is_end : (w : World) (id mark : ℕ) → SaidTo w Subscribe (Subscribed (Ok (id, mark))) → mark ≡ length w.events
mark_is_end w id mark said = ap (λ (z : ℕ × ℕ). z.1) said.1

pub mark_stays : (w : World) (id mark : ℕ) (calls : List Call) (replies : List Said) → SaidTo w Subscribe (Subscribed (Ok (id, mark)))
    → IsRun (after_call w Subscribe (Subscribed (Ok (id, mark)))) calls replies
    → HasMark (world_after (after_call w Subscribe (Subscribed (Ok (id, mark)))) calls replies) id mark
mark_stays w id mark calls replies said run = marked_run (after_call w Subscribe (Subscribed (Ok (id, mark)))) calls replies id mark (marked_first w id mark said)

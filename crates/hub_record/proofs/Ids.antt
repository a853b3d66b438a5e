-- The ids that a run gives are 1, 2, 3, and so on.
use Rattle.std.proofs.Common.{ℕ, zero, suc, ◌≡◌, ◌≢◌, ◌+◌, ◌<◌, List, [], ◌∷◌, length, get_or, Option, Some, None, Ok, Err, refl, ap, ◌∙◌, arith}
use Rattle.std.proofs.lemmas.List.{length-append}
use Rattle.hub_record.specs.declared.Kind.{Kind}
use Rattle.hub_record.specs.declared.limits.Limits.{Limits}
use Rattle.hub_record.specs.declared.runs.Call.{Call}
use Rattle.hub_record.specs.declared.runs.Call.TheVariants.{Subscribe, Publish, Take, Cancel, Close}
use Rattle.hub_record.specs.declared.runs.Said.{Said}
use Rattle.hub_record.specs.declared.runs.Said.TheVariants.{Subscribed, Published, Took, Cancelled, Shut}
use Rattle.hub_record.specs.World.{World, Subscription, subscription_in, new_subscription, empty_world, moved_on, as_cancelled, after_take_for, after_cancel_for}
use Rattle.hub_record.specs.Runs.{after_call, IsRun, ids_given}
use Rattle.hub_record.proofs.Cursors.{length-changed}

given : World → ℕ
given w = length w.subscriptions

given_taken : (w : World) (id most : ℕ) (o : Option Subscription) → given (after_take_for w id most o) ≡ given w
unfolding given
given_taken w id most None = refl
given_taken w id most (Some s) = length-changed (moved_on w most) 1 w.subscriptions id

given_left : (w : World) (id : ℕ) (o : Option Subscription) → given (after_cancel_for w id o) ≡ given w
unfolding given
given_left w id None = refl
given_left w id (Some s) = length-changed as_cancelled 1 w.subscriptions id

-- the ids of a run go on from those that were given
go_on : (w : World) (calls : List Call) (replies : List Said) (k d : ℕ) → IsRun w calls replies → k < length (ids_given replies) → get_or (ids_given replies) k d ≡ given w + k + 1
unfolding given
go_on w calls [] k d run h = absurd (omega arith)
go_on w [] (said ∷ rest) k d run h = absurd run
go_on w (Subscribe ∷ calls) (Subscribed (Ok new) ∷ rest) zero d run h = ap (λ z. z.0) run.0.1 ∙ omega arith
go_on w (Subscribe ∷ calls) (Subscribed (Ok new) ∷ rest) (suc k) d run h =
    let more = go_on (after_call w Subscribe (Subscribed (Ok new))) calls rest k d run.1 (omega arith) in
    let long = length-append w.subscriptions (new_subscription w ∷ []) in
    more ∙ omega arith
go_on w (Subscribe ∷ calls) (Subscribed (Err e) ∷ rest) k d run h = go_on w calls rest k d run.1 h
go_on w (Publish who message ∷ calls) (Published (Ok first) ∷ rest) k d run h = go_on (after_call w (Publish who message) (Published (Ok first))) calls rest k d run.1 h
go_on w (Publish who message ∷ calls) (Published (Err e) ∷ rest) k d run h = go_on w calls rest k d run.1 h
go_on w (Take id max ∷ calls) (Took reply ∷ rest) k d run h =
    go_on (after_call w (Take id max) (Took reply)) calls rest k d run.1 h ∙ ap (λ n. n + k + 1) (given_taken w id max (subscription_in w id))
go_on w (Cancel id ∷ calls) (Cancelled reply ∷ rest) k d run h =
    go_on (after_call w (Cancel id) (Cancelled reply)) calls rest k d run.1 h ∙ ap (λ n. n + k + 1) (given_left w id (subscription_in w id))
go_on w (Close ∷ calls) (Shut reply ∷ rest) k d run h = go_on (after_call w Close (Shut reply)) calls rest k d run.1 h
go_on w (call ∷ calls) (said ∷ rest) k d run h = absurd run.0

pub counted : (kind : Kind) (limits : Limits) (calls : List Call) (replies : List Said) (k d : ℕ) → IsRun (empty_world kind limits) calls replies → k < length (ids_given replies)
    → get_or (ids_given replies) k d ≡ k + 1
unfolding given
counted kind limits calls replies k d run h = go_on (empty_world kind limits) calls replies k d run h ∙ omega arith

pub differ : (kind : Kind) (limits : Limits) (calls : List Call) (replies : List Said) (j k d : ℕ) → IsRun (empty_world kind limits) calls replies → j < k → k < length (ids_given replies)
    → get_or (ids_given replies) j d ≢ get_or (ids_given replies) k d
differ kind limits calls replies j k d run less h same =
    let a = counted kind limits calls replies j d run (omega arith) in
    let b = counted kind limits calls replies k d run h in
    absurd (omega arith)

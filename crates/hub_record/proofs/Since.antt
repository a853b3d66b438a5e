-- What every run of the model keeps: each event since a mark, once and in order, and each publisher's letters.
use Rattle.std.proofs.Common.{ℕ, ◌≡◌, ◌==◌, ◌+◌, ◌-◌, ◌≤◌, Bool, if◌then◌else◌, List, [], ◌∷◌, ◌++◌, length, map, filter, take, drop, Option, Some, None, Result, Ok, Err, nat_eq, refl, sym, ap, ◌∙◌, inl, inr, append_assoc, append-nil, arith, ◌<◌, get_or, subst}
use Rattle.std.proofs.lemmas.Bool.{cases_Bool}
use Rattle.std.proofs.lemmas.List.{map-append, length-append, take-append-drop, drop-drop, drop-append-le, take_at, length-drop, take_more}
use Rattle.std.proofs.lemmas.List.Elements.{filter-append}
use Rattle.hub_record.specs.declared.Event.{Event}
use Rattle.hub_record.specs.declared.SubError.{SubError}
use Rattle.hub_record.specs.declared.PubError.{PubError}
use Rattle.hub_record.specs.declared.runs.Call.{Call}
use Rattle.hub_record.specs.declared.runs.Call.TheVariants.{Subscribe, Publish, Take, Cancel}
use Rattle.hub_record.specs.declared.runs.Said.{Said}
use Rattle.hub_record.specs.declared.runs.Said.TheVariants.{Subscribed, Published}
use Rattle.hub_record.specs.World.{World, Subscription, subscription_in, changed_from, new_subscription, as_events, moved_on, count_to_take, as_cancelled, after_subscribe, after_publish, after_take_for, after_cancel_for}
use Rattle.hub_record.proofs.Policies.{count_within}
use Rattle.hub_record.specs.Runs.{after_call, world_after, GathersSinceMark, EachGathersSinceMark, AllGatherSinceMark, by, letters_accepted, letters_published, SaidTo, IsRun}

-- ---- since

-- the events since the mark up to the cursor
between : (events : List Event) (s : Subscription) → s.mark ≤ s.next → s.next ≤ length events → drop s.mark events ≡ s.gathered ++ drop s.next events → s.gathered ≡ take (s.next - s.mark) (drop s.mark events)
between events s b e since =
    let a = ap length since in
    let m = length-drop s.mark events in
    let n = length-drop s.next events in
    let l = length-append s.gathered (drop s.next events) in
    sym (ap (take (s.next - s.mark)) since ∙ take_at s.gathered (drop s.next events) (s.next - s.mark) (omega arith))

follows : (events : List Event) (s : Subscription) → s.mark ≤ s.next → s.next ≤ length events → drop s.mark events ≡ s.gathered ++ drop s.next events → GathersSinceMark events s
follows events s b e since = record { began = b; ended = e; gathered = between events s b e since; since = since }

more_events : (events more : List Event) (subs : List Subscription) → EachGathersSinceMark events subs → EachGathersSinceMark (events ++ more) subs
more_events events more [] h = tt
more_events events more (s ∷ rest) h =
    let b = h.0.began in
    let e = h.0.ended in
    let l = length-append events more in (
      follows (events ++ more) s h.0.began (omega arith)
          (drop-append-le s.mark events more (omega arith) ∙ ap (λ z. z ++ more) h.0.since ∙ append_assoc s.gathered (drop s.next events) more
          ∙ ap (λ z. s.gathered ++ z) (sym (drop-append-le s.next events more e))),
      more_events events more rest h.1,
    )

follows-push : (events : List Event) (subs : List Subscription) (s : Subscription) → GathersSinceMark events s → EachGathersSinceMark events subs → EachGathersSinceMark events (subs ++ s ∷ [])
follows-push events [] s f h = (f, tt)
follows-push events (x ∷ rest) s f h = (h.0, follows-push events rest s f h.1)

follows-changed : (events : List Event) (f : Subscription → Subscription) → ((s : Subscription) → GathersSinceMark events s → GathersSinceMark events (f s)) → (from : ℕ) (subs : List Subscription) (id : ℕ) → EachGathersSinceMark events subs → EachGathersSinceMark events (changed_from f from subs id)
follows-changed events f keep from [] id h = tt
follows-changed events f keep from (s ∷ rest) id h =
    elim (cases_Bool (nat_eq id from)) [ inl e ↦ simp e (keep s h.0, h.1) | inr e ↦ simp e (h.0, follows-changed events f keep (from + 1) rest id h.1) ]

follows-moved : (w : World) (most : ℕ) (s : Subscription) → GathersSinceMark w.events s → GathersSinceMark w.events (moved_on w most s)
follows-moved w most s h =
    let b = h.began in
    let e = h.ended in
    let k = count_to_take w s most in
    let c = count_within w s most in
    follows w.events (moved_on w most s) (omega arith) (omega arith)
    (h.since ∙ ap (λ z. s.gathered ++ z) (sym (take-append-drop k (drop s.next w.events)) ∙ ap (λ z. take k (drop s.next w.events) ++ z) (drop-drop k s.next w.events))
    ∙ sym (append_assoc s.gathered (take k (drop s.next w.events)) (drop (s.next + k) w.events)))

follows_take : (w : World) (id most : ℕ) (o : Option Subscription) → AllGatherSinceMark w → AllGatherSinceMark (after_take_for w id most o)
follows_take w id most None h = h
follows_take w id most (Some s) h = follows-changed w.events (moved_on w most) (follows-moved w most) 1 w.subscriptions id h

follows_cancel : (w : World) (id : ℕ) (o : Option Subscription) → AllGatherSinceMark w → AllGatherSinceMark (after_cancel_for w id o)
follows_cancel w id None h = h
follows_cancel w id (Some s) h = follows-changed w.events as_cancelled (λ s f. record { began = f.began; ended = f.ended; gathered = f.gathered; since = f.since }) 1 w.subscriptions id h

follows_subscribe : (w : World) (r : Result (ℕ × ℕ) SubError) → AllGatherSinceMark w → AllGatherSinceMark (after_subscribe w r)
follows_subscribe w (Ok g) h = follows-push w.events w.subscriptions (new_subscription w) (follows w.events (new_subscription w) (omega arith) (omega arith) refl) h
follows_subscribe w (Err e) h = h

follows_publish : (w : World) (who : ℕ) (message : List ℕ) (r : Result ℕ PubError) → AllGatherSinceMark w → AllGatherSinceMark (after_publish w who message r)
follows_publish w who message (Ok g) h = more_events w.events (as_events who message) w.subscriptions h
follows_publish w who message (Err e) h = h

follows_call : (w : World) (call : Call) (said : Said) → AllGatherSinceMark w → AllGatherSinceMark (after_call w call said)
follows_call w Subscribe (Subscribed r) h = follows_subscribe w r h
follows_call w (Publish who message) (Published r) h = follows_publish w who message r h
follows_call w (Take id max) said h = follows_take w id max (subscription_in w id) h
follows_call w (Cancel id) said h = follows_cancel w id (subscription_in w id) h
follows_call w call said h = h

pub run_follows : (w : World) (calls : List Call) (replies : List Said) → AllGatherSinceMark w → AllGatherSinceMark (world_after w calls replies)
run_follows w [] replies h = h
run_follows w (call ∷ calls) [] h = h
run_follows w (call ∷ calls) (said ∷ rest) h = run_follows (after_call w call said) calls rest (follows_call w call said h)

-- ---- each publisher's letters

pub by-append : (p : ℕ) (a b : List Event) → by p (a ++ b) ≡ by p a ++ by p b
by-append p a b = ap (map (λ (e : Event). e.letter)) (filter-append (λ (e : Event). e.who == p) a b) ∙ map-append (λ (e : Event). e.letter) (filter (λ (e : Event). e.who == p) a) (filter (λ (e : Event). e.who == p) b)

by-stamped : (p who : ℕ) (message : List ℕ) → by p (as_events who message) ≡ (if who == p then message else [])
by-stamped p who [] = elim (cases_Bool (who == p)) [ inl e ↦ simp e | inr e ↦ simp e ]
by-stamped p who (l ∷ ls) =
    let ih = by-stamped p who ls in
    elim (cases_Bool (who == p)) [
      | inl e ↦ (let k : by p (as_events who ls) ≡ ls = ih ∙ ap (λ (b : Bool). if b then ls else []) e in simp e (ap (λ z. l ∷ z) k))
      | inr e ↦ (let k : by p (as_events who ls) ≡ [] = ih ∙ ap (λ (b : Bool). if b then ls else []) e in simp e k)
    ]

own_take : (p : ℕ) (w : World) (id most : ℕ) (o : Option Subscription) → by p (after_take_for w id most o).events ≡ by p w.events ++ []
own_take p w id most None = sym (append-nil (by p w.events))
own_take p w id most (Some s) = sym (append-nil (by p w.events))

own_cancel : (p : ℕ) (w : World) (id : ℕ) (o : Option Subscription) → by p (after_cancel_for w id o).events ≡ by p w.events ++ []
own_cancel p w id None = sym (append-nil (by p w.events))
own_cancel p w id (Some s) = sym (append-nil (by p w.events))

own_subscribe : (p : ℕ) (w : World) (r : Result (ℕ × ℕ) SubError) → by p (after_subscribe w r).events ≡ by p w.events ++ []
own_subscribe p w (Ok g) = sym (append-nil (by p w.events))
own_subscribe p w (Err e) = sym (append-nil (by p w.events))

own_publish : (p : ℕ) (w : World) (who : ℕ) (message : List ℕ) (r : Result ℕ PubError) → by p (after_publish w who message r).events ≡ by p w.events ++ letters_accepted p (Publish who message) (Published r)
own_publish p w who message (Ok g) = by-append p w.events (as_events who message) ∙ ap (λ z. by p w.events ++ z) (by-stamped p who message)
own_publish p w who message (Err e) = sym (append-nil (by p w.events))

own_call : (p : ℕ) (w : World) (call : Call) (said : Said) → by p (after_call w call said).events ≡ by p w.events ++ letters_accepted p call said
own_call p w Subscribe (Subscribed r) = own_subscribe p w r
own_call p w (Publish who message) (Published r) = own_publish p w who message r
own_call p w (Take id max) said = own_take p w id max (subscription_in w id)
own_call p w (Cancel id) said = own_cancel p w id (subscription_in w id)
own_call p w call said = sym (append-nil (by p w.events))

pub run_published : (p : ℕ) (w : World) (calls : List Call) (replies : List Said) → by p (world_after w calls replies).events ≡ by p w.events ++ letters_published p calls replies
run_published p w [] replies = sym (append-nil (by p w.events))
run_published p w (call ∷ calls) [] = sym (append-nil (by p w.events))
run_published p w (call ∷ calls) (said ∷ rest) =
    run_published p (after_call w call said) calls rest ∙ ap (λ z. z ++ letters_published p calls rest) (own_call p w call said)
    ∙ append_assoc (by p w.events) (letters_accepted p call said) (letters_published p calls rest)

-- ---- a run with one more call

pub run-push : (w : World) (calls : List Call) (replies : List Said) (call : Call) (said : Said) → IsRun w calls replies → SaidTo (world_after w calls replies) call said → IsRun w (calls ++ call ∷ []) (replies ++ said ∷ [])
run-push w [] [] call said r h = (h, tt)
run-push w [] (x ∷ rest) call said r h = absurd r
run-push w (c ∷ calls) [] call said r h = absurd r
run-push w (c ∷ calls) (x ∷ rest) call said r h = (r.0, run-push (after_call w c x) calls rest call said r.1 h)

pub after-push : (w : World) (calls : List Call) (replies : List Said) (call : Call) (said : Said) → IsRun w calls replies → world_after w (calls ++ call ∷ []) (replies ++ said ∷ []) ≡ after_call (world_after w calls replies) call said
after-push w [] [] call said r = refl
after-push w [] (x ∷ rest) call said r = absurd r
after-push w (c ∷ calls) [] call said r = absurd r
after-push w (c ∷ calls) (x ∷ rest) call said r = after-push (after_call w c x) calls rest call said r.1

-- the run so far with one more call; the calls so far are the first i
pub stepped : (w : World) (all : List Call) (i : ℕ) (replies replies' : List Said) (call : Call) (said : Said) → i < length all → call ≡ get_or all i call → IsRun w (take i all) replies → SaidTo (world_after w (take i all) replies) call said → replies' ≡ replies ++ said ∷ [] → IsRun w (take (i + 1) all) replies'
stepped w all i replies replies' call said h at run told is =
    let more : take (i + 1) all ≡ take i all ++ call ∷ [] = take_more all i call h ∙ ap (λ z. take i all ++ z ∷ []) (sym at) in
    subst (λ z. IsRun w z replies') (sym more) (subst (λ z. IsRun w (take i all ++ call ∷ []) z) (sym is) (run-push w (take i all) replies call said run told))

pub stepped_world : (w : World) (all : List Call) (i : ℕ) (replies replies' : List Said) (call : Call) (said : Said) → i < length all → call ≡ get_or all i call → IsRun w (take i all) replies → replies' ≡ replies ++ said ∷ [] → after_call (world_after w (take i all) replies) call said ≡ world_after w (take (i + 1) all) replies'
stepped_world w all i replies replies' call said h at run is =
    let more : take (i + 1) all ≡ take i all ++ call ∷ [] = take_more all i call h ∙ ap (λ z. take i all ++ z ∷ []) (sym at) in
    sym (after-push w (take i all) replies call said run) ∙ sym (λ j. world_after w (more j) (is j))

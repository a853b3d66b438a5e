-- Who published last, and what a call changes of it.
use Rattle.std.proofs.Common.{ℕ, ◌≡◌, ◌≢◌, ◌⊎◌, ◌↔◌, ◌==◌, Bool, false, if◌then◌else◌, List, [], ◌∷◌, ◌++◌, length, Option, Some, None, Result, Ok, Err, refl, sym, ap, ◌∙◌, inl, inr}
use Rattle.std.proofs.lemmas.Bool.{eq-eqb}
use Rattle.std.proofs.lemmas.List.{append-nil}
use Rattle.std.specs.List.{last_or}
use Rattle.std.specs.Option.{option_map}
use Rattle.hub_record.specs.declared.Event.{Event}
use Rattle.hub_record.specs.declared.PubError.{PubError}
use Rattle.hub_record.specs.declared.SubError.{SubError}
use Rattle.hub_record.specs.declared.runs.Call.{Call}
use Rattle.hub_record.specs.declared.runs.Call.TheVariants.{Subscribe, Publish, Take, Cancel}
use Rattle.hub_record.specs.declared.runs.Said.{Said}
use Rattle.hub_record.specs.declared.runs.Said.TheVariants.{Subscribed, Published}
use Rattle.hub_record.specs.World.{World, Subscription, as_events, last_publisher, subscription_in, after_subscribe, after_publish, after_take_for, after_cancel_for}
use Rattle.hub_record.specs.Runs.{after_call, letters_accepted}

last_or-append : (o : Option Event) (es fs : List Event) → last_or o (es ++ fs) ≡ last_or (last_or o es) fs
last_or-append o [] fs = refl
last_or-append o (e ∷ es) fs = last_or-append (Some e) es fs

last_of_message : (o : Option Event) (who l : ℕ) (ls : List ℕ) → option_map (λ (e : Event). e.who) (last_or o (as_events who (l ∷ ls))) ≡ Some who
last_of_message o who l [] = refl
last_of_message o who l (k ∷ ls) = last_of_message (Some (record { who = who; letter = l })) who k ls

-- ---- a message

pub last_with_letters : (events : List Event) (who l : ℕ) (ls : List ℕ) → last_publisher (events ++ as_events who (l ∷ ls)) ≡ Some who
last_with_letters events who l ls = ap (option_map (λ (e : Event). e.who)) (last_or-append None events (as_events who (l ∷ ls))) ∙ last_of_message (last_or None events) who l ls

pub last_of_some : (events : List Event) (who : ℕ) (message : List ℕ) → (length message == 0) ≡ false → Some who ≡ last_publisher (events ++ as_events who message)
last_of_some events who [] e = absurd (let k = e in cc)
last_of_some events who (l ∷ ls) e = sym (last_with_letters events who l ls)

pub last_without : (events : List Event) (who : ℕ) → last_publisher (events ++ as_events who []) ≡ last_publisher events
last_without events who = ap last_publisher (append-nil events)

-- ---- the law

pub last_at_end : (before : List Event) (e : Event) → last_publisher (before ++ e ∷ []) ≡ Some e.who
last_at_end before e = ap (option_map (λ (e : Event). e.who)) (last_or-append None before (e ∷ []))

some_is_last : (e : Event) (es : List Event) → option_map (λ (e : Event). e.who) (last_or (Some e) es) ≡ None → ⊥
some_is_last e [] h = cc
some_is_last e (f ∷ es) h = some_is_last f es h

pub none_is_last : (events : List Event) → (last_publisher events ≡ None) ↔ (events ≡ [])
none_is_last [] = (λ e. refl, λ e. refl)
none_is_last (e ∷ es) = (λ h. absurd (some_is_last e es h), λ h. absurd (let k = h in cc))

-- p was the last one before, or these letters are its
abbrev WasOr : ℕ → World → List ℕ → Type 0
WasOr p w mine = (last_publisher w.events ≡ Some p) ⊎ (mine ≢ [])

last_take : (p : ℕ) (w : World) (id most : ℕ) (o : Option Subscription) (mine : List ℕ) → last_publisher (after_take_for w id most o).events ≡ Some p → WasOr p w mine
last_take p w id most None mine h = inl h
last_take p w id most (Some s) mine h = inl h

last_cancel : (p : ℕ) (w : World) (id : ℕ) (o : Option Subscription) (mine : List ℕ) → last_publisher (after_cancel_for w id o).events ≡ Some p → WasOr p w mine
last_cancel p w id None mine h = inl h
last_cancel p w id (Some s) mine h = inl h

last_subscribe : (p : ℕ) (w : World) (r : Result (ℕ × ℕ) SubError) (mine : List ℕ) → last_publisher (after_subscribe w r).events ≡ Some p → WasOr p w mine
last_subscribe p w (Ok g) mine h = inl h
last_subscribe p w (Err e) mine h = inl h

some_letters : (p who l : ℕ) (ls : List ℕ) → who ≡ p → (if who == p then (l ∷ ls) else []) ≢ []
some_letters p who l ls is none =
    let all : (if who == p then (l ∷ ls) else []) ≡ l ∷ ls = ap (λ (b : Bool). if b then (l ∷ ls) else []) (eq-eqb who p is) in
    let empty : l ∷ ls ≡ [] = sym all ∙ none in
    cc

last_publish : (p : ℕ) (w : World) (who : ℕ) (message : List ℕ) (r : Result ℕ PubError) → last_publisher (after_publish w who message r).events ≡ Some p → WasOr p w (letters_accepted p (Publish who message) (Published r))
last_publish p w who [] (Ok g) h = inl (sym (last_without w.events who) ∙ h)
last_publish p w who (l ∷ ls) (Ok g) h = let same : Some who ≡ Some p = sym (last_with_letters w.events who l ls) ∙ h in let is : who ≡ p = cc in inr (some_letters p who l ls is)
last_publish p w who [] (Err e) h = inl h
last_publish p w who (l ∷ ls) (Err e) h = inl h

pub last_or_published : (w : World) (call : Call) (said : Said) (p : ℕ) → last_publisher (after_call w call said).events ≡ Some p → (last_publisher w.events ≡ Some p) ⊎ (letters_accepted p call said ≢ [])
last_or_published w Subscribe (Subscribed r) p h = last_subscribe p w r (letters_accepted p Subscribe (Subscribed r)) h
last_or_published w (Publish who message) (Published r) p h = last_publish p w who message r h
last_or_published w (Take id max) said p h = last_take p w id max (subscription_in w id) (letters_accepted p (Take id max) said) h
last_or_published w (Cancel id) said p h = last_cancel p w id (subscription_in w id) (letters_accepted p (Cancel id) said) h
last_or_published w call said p h = inl h

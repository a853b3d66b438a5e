-- The length of a hit as a function, and that there is always an answer.
use Rattle.std.proofs.Common.{◌≡◌, ◌⊎◌, ℕ, zero, suc, ◌+◌, ◌-◌, ◌<◌, ◌≤◌, Bool, true, false, List, ◌++◌, take, length, min, Option, None, Some, refl, sym, ap, ◌∙◌, arith, ⊎_elim, inl, inr, Result, Ok, Err}
use Rattle.std.proofs.lemmas.Bool.{cases_lt, cases_Bool, cond-true, cond-false}
use Rattle.hub_letters.specs.declared.mode.TheConstants.{MOST_GATHERED}
use Rattle.hub_listen.specs.Hit.{finds, HasNoHit, first_such, hit_length}
use Rattle.hub_listen.specs.Listening.{Listening, Feeds, after_hit, after_quiet, is_spent}
use Rattle.hub_listen.specs.Pieces.{LengthIsHit, NoLengthIsNoHit, AnswersEach}
use Rattle.hub_listen.specs.declared.feed.Feed.{Feed}
use Rattle.hub_listen.specs.declared.feed.Feed.TheVariants.{Spent, Hit, Quiet}
use Rattle.hub_listen.specs.declared.feed.FeedError.{FeedError}
use Rattle.hub_listen.specs.declared.feed.FeedError.TheVariants.{Overlong}

-- ---- the first of some numbers that passes a test

first_such-holds : (test : ℕ → Bool) (n i k : ℕ) → first_such test i n ≡ Some k
    → (i ≤ k) × (k < i + n) × (test k ≡ true) × ((j : ℕ) → i ≤ j → j < k → test j ≡ false)
unfolding first_such
first_such-holds test zero i k e = absurd (cc)
first_such-holds test (suc n) i k e =
    ⊎_elim
    (λ (here : test i ≡ true).
    let first : Some i ≡ Some k = sym (cond-true (test i) (Some i) (first_such test (i + 1) n) here) ∙ e in
    let same : i ≡ k = cc in
    (omega arith, omega arith, ap test (sym same) ∙ here, λ j from below. absurd (omega arith)))
    (λ (fails : test i ≡ false).
    let later = first_such-holds test n (i + 1) k (sym (cond-false (test i) (Some i) (first_such test (i + 1) n) fails) ∙ e) in
    let low = later.0 in let high = later.1 in (
      omega arith,
      omega arith,
      later.2,
      λ j from below.
          ⊎_elim (λ (lt : i < j). later.3 j (omega arith) below) (λ (le : j ≤ i). let e : j ≡ i = omega arith in ap test e ∙ fails) (cases_lt i j),
    ))
    (cases_Bool (test i))

first_such-least : (test : ℕ → Bool) (n i k : ℕ) → i ≤ k → k < i + n → test k ≡ true → ((j : ℕ) → i ≤ j → j < k → test j ≡ false)
    → first_such test i n ≡ Some k
unfolding first_such
first_such-least test zero i k low high holds before = absurd (omega arith)
first_such-least test (suc n) i k low high holds before =
    ⊎_elim
    (λ (lt : i < k). cond-false (test i) (Some i) (first_such test (i + 1) n) (before i (omega arith) lt)
    ∙ first_such-least test n (i + 1) k (omega arith) (omega arith) holds (λ j from below. before j (omega arith) below))
    (λ (le : k ≤ i). let e : i ≡ k = omega arith in cond-true (test i) (Some i) (first_such test (i + 1) n) (ap test e ∙ holds) ∙ ap (λ x. Some x) e)
    (cases_lt i k)

first_such-none : (test : ℕ → Bool) (n i : ℕ) → ((j : ℕ) → i ≤ j → j < i + n → test j ≡ false) → first_such test i n ≡ None
unfolding first_such
first_such-none test zero i never = refl
first_such-none test (suc n) i never =
    cond-false (test i) (Some i) (first_such test (i + 1) n) (never i (omega arith) (omega arith))
    ∙ first_such-none test n (i + 1) (λ j from below. never j (omega arith) (omega arith))

first_such-fails : (test : ℕ → Bool) (n i : ℕ) → first_such test i n ≡ None → (j : ℕ) → i ≤ j → j < i + n → test j ≡ false
unfolding first_such
first_such-fails test zero i e j from below = absurd (omega arith)
first_such-fails test (suc n) i e j from below =
    ⊎_elim
    (λ (here : test i ≡ true). let some : Some i ≡ None = sym (cond-true (test i) (Some i) (first_such test (i + 1) n) here) ∙ e in absurd (cc))
    (λ (fails : test i ≡ false).
    ⊎_elim
    (λ (lt : i < j). first_such-fails test n (i + 1) (sym (cond-false (test i) (Some i) (first_such test (i + 1) n) fails) ∙ e) j (omega arith) (omega arith))
    (λ (le : j ≤ i). let same : j ≡ i = omega arith in ap test same ∙ fails)
    (cases_lt i j))
    (cases_Bool (test i))

-- ---- the hit

pub length_is_hit : LengthIsHit
unfolding hit_length
length_is_hit p g l k =
    let test : ℕ → Bool = λ j. finds p (g ++ take j l) in
    let most = min (length l) (MOST_GATHERED - length g) in (
      λ e. let h = first_such-holds test most 1 k e in
          let low = h.0 in let high = h.1 in
          record { some = low; within = omega arith; short = omega arith; found = h.2; least = h.3 },
      λ h. let within = h.within in let short = h.short in first_such-least test most 1 k h.some (omega arith) h.found h.least,
    )

pub no_length_is_no_hit : NoLengthIsNoHit
unfolding hit_length
no_length_is_no_hit p g l =
    let test : ℕ → Bool = λ j. finds p (g ++ take j l) in
    let most = min (length l) (MOST_GATHERED - length g) in (
      λ e j some within short. first_such-fails test most 1 e j some (omega arith),
      λ none. first_such-none test most 1 (λ j from below. none j from (omega arith) (omega arith)),
    )

-- ---- an answer to each piece

some_or_none : (o : Option ℕ) → ((k : ℕ) × (o ≡ Some k)) ⊎ (o ≡ None)
some_or_none None = inr refl
some_or_none (Some k) = inl (k, refl)

without_hit : (old : Listening) (piece : List ℕ) → is_spent old ≡ false → HasNoHit old.pattern old.gathered piece
    → (answer : Result Feed FeedError) × (new : Listening) × Feeds old piece answer new
without_hit old piece unspent none =
    ⊎_elim (λ (over : MOST_GATHERED < length old.gathered + length piece). (Err Overlong, old, (unspent, none, over, refl)))
    (λ (fits : length old.gathered + length piece ≤ MOST_GATHERED). (Ok Quiet, after_quiet old piece, (unspent, none, fits, refl)))
    (cases_lt MOST_GATHERED (length old.gathered + length piece))

pub answers : AnswersEach
answers old piece =
    ⊎_elim (λ (spent : is_spent old ≡ true). (Ok Spent, old, (spent, refl)))
    (λ (unspent : is_spent old ≡ false).
    ⊎_elim
    (λ hit. let found = (length_is_hit old.pattern old.gathered piece hit.0).0 hit.1 in
    (Ok (Hit hit.0), after_hit old piece hit.0, (unspent, found, refl)))
    (λ none. without_hit old piece unspent ((no_length_is_no_hit old.pattern old.gathered piece).0 none))
    (some_or_none (hit_length old.pattern old.gathered piece)))
    (cases_Bool (is_spent old))

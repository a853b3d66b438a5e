-- A piece cut in two, if the first part is quiet; and that there is one answer.
use Rattle.std.proofs.Common.{◌≡◌, ℕ, suc, ◌+◌, ◌<◌, ◌≤◌, ◌-◌, false, List, [], ◌∷◌, ◌++◌, take, length, refl, sym, ap, subst, ◌∙◌, arith, append_assoc, length-append, ⊎_elim, Result, Ok, Err, true≢false}
use Rattle.std.proofs.lemmas.Bool.{cases_lt}
use Rattle.hub_letters.specs.declared.mode.TheConstants.{MOST_GATHERED}
use Rattle.hub_listen.specs.Hit.{finds, IsHit, HasNoHit}
use Rattle.hub_listen.specs.Listening.{Listening, Feeds, after_hit, after_quiet}
use Rattle.hub_listen.specs.Pieces.{counted_from, left_by, CutsAnywhere, AnswersOnce}
use Rattle.hub_listen.specs.declared.feed.Feed.{Feed}
use Rattle.hub_listen.specs.declared.feed.Feed.TheVariants.{Spent, Hit, Quiet}
use Rattle.hub_listen.specs.declared.feed.FeedError.{FeedError}
use Rattle.hub_listen.specs.declared.feed.FeedError.TheVariants.{Overlong, Memory}
use Rattle.hub_listen.proofs.Prefixes.{finds-prefix}

-- ---- the cut

take-append-past : (a b : List ℕ) (k : ℕ) → take (length a + k) (a ++ b) ≡ a ++ take k b
take-append-past [] b k = let e : 0 + k ≡ k = omega arith in ap (λ n. take n b) e
take-append-past (x ∷ a) b k =
    let e : length (x ∷ a) + k ≡ suc (length a + k) = omega arith in
    ap (λ n. take n (x ∷ (a ++ b))) e ∙ ap (λ t. x ∷ t) (take-append-past a b k)

module _ (p g a b : List ℕ) where
  -- a prefix that ends in the second part
  past : (i : ℕ) → g ++ take (length a + i) (a ++ b) ≡ (g ++ a) ++ take i b
  past i = ap (λ t. g ++ t) (take-append-past a b i) ∙ sym (append_assoc g a (take i b))

  -- if the first part has no hit, a prefix of both finds nothing if it finds nothing in the second
  finds_nothing : HasNoHit p g a → length g + length a ≤ MOST_GATHERED → (j : ℕ) → 1 ≤ j
      → ((i : ℕ) → 1 ≤ i → j ≡ length a + i → finds p ((g ++ a) ++ take i b) ≡ false) → finds p (g ++ take j (a ++ b)) ≡ false
  finds_nothing quiet fits j some later =
      ⊎_elim (λ (lt : length a < j). let e : j ≡ length a + (j - length a) = omega arith in
      ap (λ n. finds p (g ++ take n (a ++ b))) e ∙ ap (finds p) (past (j - length a)) ∙ later (j - length a) (omega arith) e)
      (λ (le : j ≤ length a). finds-prefix p g a b j le ∙ quiet j some le (omega arith))
      (cases_lt (length a) j)

  IsHit-past : HasNoHit p g a → length g + length a ≤ MOST_GATHERED → (k : ℕ) → IsHit p (g ++ a) b k → IsHit p g (a ++ b) (length a + k)
  IsHit-past quiet fits k h =
      let some = h.some in let within = h.within in let short = h.short in
      let all = length-append g a in let both = length-append a b in record {
        some = omega arith;
        within = omega arith;
        short = omega arith;
        found = ap (finds p) (past k) ∙ h.found;
        least = λ j from below. finds_nothing quiet fits j from (λ i start e. h.least i start (omega arith));
      }

  HasNoHit-past : HasNoHit p g a → length g + length a ≤ MOST_GATHERED → HasNoHit p (g ++ a) b → HasNoHit p g (a ++ b)
  HasNoHit-past quiet fits none = λ j from within short.
      let all = length-append g a in let both = length-append a b in
      finds_nothing quiet fits j from (λ i start e. none i start (omega arith) (omega arith))

-- with the listener between the two parts written out
cut : (old new : Listening) (first second : List ℕ) (answer : Result Feed FeedError)
    → Feeds old first (Ok Quiet) (after_quiet old first) → Feeds (after_quiet old first) second answer new
    → Feeds old (first ++ second) (counted_from (length first) answer) (left_by answer old new)
cut old new first second (Ok Spent) q f = absurd (true≢false (sym f.0 ∙ q.0))
cut old new first second (Ok (Hit k)) q f =
    let hears = λ (t : List ℕ). record old { gathered = []; hit = t } in
    (q.0, IsHit-past old.pattern old.gathered first second q.1 q.2 k f.1, f.2 ∙ ap hears (sym (past old.pattern old.gathered first second k)))
cut old new first second (Ok Quiet) q f =
    let all = length-append old.gathered first in let both = length-append first second in let fits = f.2 in (
      q.0,
      HasNoHit-past old.pattern old.gathered first second q.1 q.2 f.1,
      omega arith,
      f.3 ∙ ap (λ t. record old { gathered = t }) (append_assoc old.gathered first second),
    )
cut old new first second (Err Overlong) q f =
    let all = length-append old.gathered first in let both = length-append first second in let over = f.2 in
    (q.0, HasNoHit-past old.pattern old.gathered first second q.1 q.2 f.1, omega arith, refl)
cut old new first second (Err Memory) q f = absurd f

pub cuts_anywhere : CutsAnywhere
cuts_anywhere old between new first second answer q f =
    cut old new first second answer (q.0, q.1, q.2, refl) (subst (λ m. Feeds m second answer new) q.3 f)

-- ---- one answer

none_or_hit : (p g l : List ℕ) (k : ℕ) → IsHit p g l k → HasNoHit p g l → ⊥
none_or_hit p g l k h none = true≢false (sym h.found ∙ none k h.some h.within h.short)

one_hit : (p g l : List ℕ) (k k' : ℕ) → IsHit p g l k → IsHit p g l k' → k ≡ k'
one_hit p g l k k' h h' =
    ⊎_elim (λ (lt : k < k'). absurd (true≢false (sym h.found ∙ h'.least k h.some lt)))
    (λ (le : k' ≤ k). ⊎_elim (λ (lt : k' < k). absurd (true≢false (sym h'.found ∙ h.least k' h'.some lt))) (λ (ge : k ≤ k'). omega arith) (cases_lt k' k))
    (cases_lt k k')

pub answers_once : AnswersOnce
answers_once old n n' l (Err Memory) r f f' = absurd f
answers_once old n n' l r (Err Memory) f f' = absurd f'
answers_once old n n' l (Ok Spent) (Ok Spent) f f' = (refl, f.1 ∙ sym f'.1)
answers_once old n n' l (Ok Spent) (Ok (Hit k)) f f' = absurd (true≢false (sym f.0 ∙ f'.0))
answers_once old n n' l (Ok Spent) (Ok Quiet) f f' = absurd (true≢false (sym f.0 ∙ f'.0))
answers_once old n n' l (Ok Spent) (Err Overlong) f f' = absurd (true≢false (sym f.0 ∙ f'.0))
answers_once old n n' l (Ok (Hit k)) (Ok Spent) f f' = absurd (true≢false (sym f'.0 ∙ f.0))
answers_once old n n' l (Ok Quiet) (Ok Spent) f f' = absurd (true≢false (sym f'.0 ∙ f.0))
answers_once old n n' l (Err Overlong) (Ok Spent) f f' = absurd (true≢false (sym f'.0 ∙ f.0))
answers_once old n n' l (Ok (Hit k)) (Ok (Hit k')) f f' =
    let e = one_hit old.pattern old.gathered l k k' f.1 f'.1 in
    (ap (λ j. Ok (Hit j)) e, f.2 ∙ ap (after_hit old l) e ∙ sym f'.2)
answers_once old n n' l (Ok (Hit k)) (Ok Quiet) f f' = absurd (none_or_hit old.pattern old.gathered l k f.1 f'.1)
answers_once old n n' l (Ok (Hit k)) (Err Overlong) f f' = absurd (none_or_hit old.pattern old.gathered l k f.1 f'.1)
answers_once old n n' l (Ok Quiet) (Ok (Hit k)) f f' = absurd (none_or_hit old.pattern old.gathered l k f'.1 f.1)
answers_once old n n' l (Err Overlong) (Ok (Hit k)) f f' = absurd (none_or_hit old.pattern old.gathered l k f'.1 f.1)
answers_once old n n' l (Ok Quiet) (Ok Quiet) f f' = (refl, f.3 ∙ sym f'.3)
answers_once old n n' l (Ok Quiet) (Err Overlong) f f' = let a = f.2 in let b = f'.2 in absurd (omega arith)
answers_once old n n' l (Err Overlong) (Ok Quiet) f f' = let a = f.2 in let b = f'.2 in absurd (omega arith)
answers_once old n n' l (Err Overlong) (Err Overlong) f f' = (refl, f.3 ∙ sym f'.3)

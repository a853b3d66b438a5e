-- Letters fed one at a time, and all of them at once.
use Rattle.std.proofs.Common.{◌≡◌, ◌≢◌, ℕ, ◌+◌, ◌-◌, ◌<◌, ◌≤◌, false, List, [], ◌∷◌, ◌++◌, take, drop, length, length-append, slice_range, drop-cons, refl, sym, ap, subst, ◌∙◌, arith, ⊎_elim, Result, Ok, Err, true≢false}
use Rattle.std.proofs.lemmas.List.{take_more, take-append-le, take-append-drop, length-take-le, append-nil}
use Rattle.hub_letters.specs.declared.mode.TheConstants.{MOST_GATHERED}
use Rattle.hub_letters.specs.declared.mode.Mode.{Mode}
use Rattle.hub_letters.specs.declared.mode.Mode.TheVariants.{Repeat}
use Rattle.hub_listen.specs.Hit.{IsHit}
use Rattle.hub_listen.specs.Listening.{Listening, Feeds, after_hit, is_spent, spent_by}
use Rattle.hub_listen.specs.Pieces.{counted_from, left_by, SinglyIsAtOnce}
use Rattle.hub_listen.specs.declared.feed.Feed.{Feed}
use Rattle.hub_listen.specs.declared.feed.Feed.TheVariants.{Spent, Hit, Quiet}
use Rattle.hub_listen.specs.declared.feed.FeedError.{FeedError}
use Rattle.hub_listen.specs.declared.feed.FeedError.TheVariants.{Overlong, Memory}
use Rattle.hub_listen.proofs.Cuts.{cuts_anywhere}
use Rattle.hub_listen.proofs.Prefixes.{IsHit-append, HasNoHit-append}

-- a listener that goes on after a hit is never spent
pub never_spent : (l : Listening) → l.mode ≡ Repeat → is_spent l ≡ false
never_spent l goes_on = ap (λ (m : Mode). spent_by m l.hit) goes_on

-- ---- lists of letters

pub nothing_is_quiet : (l : Listening) → is_spent l ≡ false → length l.gathered ≤ MOST_GATHERED → Feeds l [] (Ok Quiet) l
nothing_is_quiet l unspent fits = (
  unspent,
  λ j some within short. absurd (omega arith),
  omega arith,
  ap (λ t. record l { gathered = t }) (sym (append-nil l.gathered)),
)

after_hit-append : (old : Listening) (prefix rest : List ℕ) (k : ℕ) → k ≤ length prefix → after_hit old prefix k ≡ after_hit old (prefix ++ rest) k
after_hit-append old prefix rest k le =
    ap (λ t. record old { gathered = []; hit = old.gathered ++ t }) (sym (take-append-le k prefix rest le))

-- an answer to the first letter, other than Quiet, is the answer to them all
at_the_first : (old new : Listening) (x : ℕ) (letters : List ℕ) (answer : Result Feed FeedError) → is_spent old ≡ false → length old.gathered ≤ MOST_GATHERED
    → Feeds old (x ∷ []) answer new → answer ≢ Ok Quiet → Feeds old (x ∷ letters) answer (left_by answer old new)
at_the_first old new x letters (Ok Spent) unspent fits f other = absurd (true≢false (sym f.0 ∙ unspent))
at_the_first old new x letters (Ok (Hit k)) unspent fits f other = (
  f.0,
  IsHit-append old.pattern old.gathered (x ∷ []) letters k f.1,
  f.2 ∙ after_hit-append old (x ∷ []) letters k f.1.within,
)
at_the_first old new x letters (Ok Quiet) unspent fits f other = absurd (other refl)
at_the_first old new x letters (Err Overlong) unspent fits f other =
    let over = f.2 in (unspent, HasNoHit-append old.pattern old.gathered (x ∷ []) letters f.1 (omega arith), omega arith, refl)
at_the_first old new x letters (Err Memory) unspent fits f other = absurd f

-- what an answer to the second part leaves is what it leaves of both
left_by-left_by : (later : Result Feed FeedError) (old between new : Listening)
    → left_by later old (left_by later between new) ≡ left_by (counted_from 1 later) old new
left_by-left_by (Ok Spent) old between new = refl
left_by-left_by (Ok (Hit k)) old between new = refl
left_by-left_by (Ok Quiet) old between new = refl
left_by-left_by (Err e) old between new = refl

-- the answer to the letters after a quiet first letter, counted from it, is the answer to all of them
after_the_first : (old between new : Listening) (x : ℕ) (letters : List ℕ) (later answer : Result Feed FeedError)
    → Feeds old (x ∷ []) (Ok Quiet) between → Feeds between letters later (left_by later between new) → answer ≡ counted_from 1 later
    → Feeds old (x ∷ letters) answer (left_by answer old new)
after_the_first old between new x letters later answer quiet f same =
    let both = cuts_anywhere old between (left_by later between new) (x ∷ []) letters later quiet f in
    subst (λ a. Feeds old (x ∷ letters) a (left_by a old new)) (sym same)
    (subst (λ m. Feeds old (x ∷ letters) (counted_from 1 later) m) (left_by-left_by later old between new) both)

stays_unspent : (old between : Listening) (piece : List ℕ) → Feeds old piece (Ok Quiet) between → is_spent between ≡ false
stays_unspent old between piece quiet = ap is_spent quiet.3 ∙ quiet.0

stays_short : (old between : Listening) (piece : List ℕ) → Feeds old piece (Ok Quiet) between → length between.gathered ≤ MOST_GATHERED
stays_short old between piece quiet =
    let fits = quiet.2 in let both = ap (λ l. length l.gathered) quiet.3 ∙ length-append old.gathered piece in omega arith

pub singly_is_at_once : SinglyIsAtOnce
singly_is_at_once old new [] answer unspent fits fed =
    subst (λ a. Feeds old [] a (left_by a old new)) (sym fed.0)
    (subst (λ m. Feeds old [] (Ok Quiet) m) (sym fed.1) (nothing_is_quiet old unspent fits))
singly_is_at_once old new (x ∷ letters) answer unspent fits fed =
    ⊎_elim (λ now. at_the_first old new x letters answer unspent fits now.0 now.1)
    (λ later. let quiet = later.2 in
    after_the_first old later.0 new x letters later.1 answer quiet
    (singly_is_at_once later.0 new letters later.1 (stays_unspent old later.0 (x ∷ []) quiet) (stays_short old later.0 (x ∷ []) quiet) later.3)
    later.4)
    fed

-- ---- letters by their places

take-slice_range : (l : List ℕ) (i : ℕ) → i < length l → take i l ++ slice_range l i (i + 1) ≡ take (i + 1) l
take-slice_range l i within =
    let one : (i + 1) - i ≡ 1 = omega arith in
    ap (λ n. take i l ++ take n (drop i l)) one ∙ ap (λ t. take i l ++ take 1 t) (drop-cons l i 0 within) ∙ sym (take_more l i 0 within)

-- the answer to one more letter is the answer to all up to it
pub one_more : (old between new : Listening) (letters : List ℕ) (i : ℕ) → i < length letters → (answer : Result Feed FeedError)
    → Feeds old (take i letters) (Ok Quiet) between → Feeds between (slice_range letters i (i + 1)) answer new
    → Feeds old (take (i + 1) letters) (counted_from i answer) (left_by answer old new)
one_more old between new letters i within answer quiet f =
    let len = length-take-le i letters (omega arith) in
    let both = cuts_anywhere old between new (take i letters) (slice_range letters i (i + 1)) answer quiet f in
    subst (λ l. Feeds old l (counted_from i answer) (left_by answer old new)) (take-slice_range letters i within)
    (subst (λ n. Feeds old (take i letters ++ slice_range letters i (i + 1)) (counted_from n answer) (left_by answer old new)) len both)

-- the last letter that was fed completes a hit in all of them
pub one_more_hit : (old between new : Listening) (letters : List ℕ) (i k : ℕ) → i < length letters
    → Feeds old (take i letters) (Ok Quiet) between → Feeds between (slice_range letters i (i + 1)) (Ok (Hit k)) new
    → IsHit old.pattern old.gathered letters (i + 1) × (new ≡ after_hit old letters (i + 1))
one_more_hit old between new letters i k within quiet f =
    let g = one_more old between new letters i within (Ok (Hit k)) quiet f in
    let some = f.1.some in let inside = g.1.within in let len = length-take-le (i + 1) letters (omega arith) in
    let last : i + k ≡ i + 1 = omega arith in
    let prefix = take (i + 1) letters in let rest = drop (i + 1) letters in
    let whole : prefix ++ rest ≡ letters = take-append-drop (i + 1) letters in
    let hit : IsHit old.pattern old.gathered prefix (i + 1) = subst (IsHit old.pattern old.gathered prefix) last g.1 in (
      subst (λ l. IsHit old.pattern old.gathered l (i + 1)) whole (IsHit-append old.pattern old.gathered prefix rest (i + 1) hit),
      g.2 ∙ ap (after_hit old prefix) last ∙ after_hit-append old prefix rest (i + 1) hit.within ∙ ap (λ l. after_hit old l (i + 1)) whole,
    )

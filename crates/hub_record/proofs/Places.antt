-- The counts of the places, of which the first and perhaps the last lie apart.
use Rattle.std.proofs.Common.{ℕ, zero, suc, ◌≡◌, ◌+◌, ◌-◌, ◌<◌, ◌≤◌, true, false, not, nat_lt, List, [], ◌∷◌, ◌++◌, Option, Some, None, length, drop, set, get_or, slice_get, cond, refl, sym, ap, ◌∙◌, ne_eqb, eq-eqb, eqb, arith}
use Rattle.std.specs.Option.{IfSome}
use Rattle.std.proofs.lemmas.Bool.{lt-ltb, le-ltb}
use Rattle.std.proofs.lemmas.List.{set-append_left, drop-append-le, length-append}
use Rattle.std.proofs.lemmas.List.Folds.{prefix_len-append}
use Rattle.std.proofs.lemmas.Option.{slice_get_within, get_or_from_slice_get}
use Rattle.std.proofs.Math.ListN.{get_or-append}
use Rattle.std.proofs.Math.Seq.{set-append_seam, get_or-append_seam}
use Rattle.circular_buffer.specs.Buffer.{Buffer, buffer}
use Rattle.hub_record.specs.Backlog.{with_last, first_place}
use Rattle.hub_record.proofs.Copies.{drop_from}
use Rattle.hub_record.proofs.Counted.{first_later}

get_or-with_last : (later : List ℕ) (last : Option ℕ) (i : ℕ) → i < length later → get_or (with_last later last) i 0 ≡ get_or later i 0
get_or-with_last later None i inside = refl
get_or-with_last later (Some l) i inside = get_or-append later (l ∷ []) 0 i inside

set-with_last : (later : List ℕ) (last : Option ℕ) (i n : ℕ) → i < length later → set (with_last later last) i n ≡ with_last (set later i n) last
set-with_last later None i n inside = refl
set-with_last later (Some l) i n inside = set-append_left later (l ∷ []) i n inside

drop-with_last : (later : List ℕ) (last : Option ℕ) (i : ℕ) → i ≤ length later → drop i (with_last later last) ≡ with_last (drop i later) last
drop-with_last later None i inside = refl
drop-with_last later (Some l) i inside = drop-append-le i later (l ∷ []) inside

cons-with_last : (x : ℕ) (later : List ℕ) (last : Option ℕ) → with_last (x ∷ later) last ≡ x ∷ with_last later last
cons-with_last x later None = refl
cons-with_last x later (Some l) = refl

-- ---- the count of one place changes

-- a place between the first and the last
pub got_later : (first capacity place : ℕ) (later : List ℕ) (last : Option ℕ) (counts : Buffer ℕ) → (place ≡ 0 → ⊥) → place ≤ length later → buffer (first ∷ with_last later last) (capacity + 1) ≡ counts
    → get_or later (place - 1) 0 ≡ get_or counts.items place 0
got_later first capacity zero later last counts some inside is = absurd (some refl)
got_later first capacity (suc k) later last counts some inside is =
    let before : suc k - 1 ≡ k = omega arith in
    ap (λ m. get_or later m 0) before ∙ sym (get_or-with_last later last k (omega arith)) ∙ ap (λ (b : Buffer ℕ). get_or b.items (suc k) 0) is

pub changed_later : (f : ℕ → ℕ) (first capacity place : ℕ) (later : List ℕ) (last : Option ℕ) (counts now : Buffer ℕ) → (place ≡ 0 → ⊥) → place ≤ length later → buffer (first ∷ with_last later last) (capacity + 1) ≡ counts
    → now ≡ buffer (set later (place - 1) (f (get_or later (place - 1) 0))) capacity
    → buffer (first ∷ with_last now.items last) (now.capacity + 1) ≡ buffer (set counts.items place (f (get_or counts.items place 0))) counts.capacity
changed_later f first capacity zero later last counts now some inside is changed = absurd (some refl)
changed_later f first capacity (suc k) later last counts now some inside is changed =
    let within : k < length later = omega arith in
    let before : suc k - 1 ≡ k = omega arith in
    (λ i. buffer (first ∷ with_last (changed i).items last) ((changed i).capacity + 1))
    ∙ ap (λ l. buffer (first ∷ l) (capacity + 1)) (ap (λ m. with_last (set later m (f (get_or later m 0))) last) before ∙ sym (set-with_last later last k (f (get_or later k 0)) within) ∙ ap (λ n. set (with_last later last) k (f n)) (sym (get_or-with_last later last k within)))
    ∙ ap (λ (b : Buffer ℕ). buffer (set b.items (suc k) (f (get_or b.items (suc k) 0))) b.capacity) is

-- the last place, which lies apart
pub changed_last : (f : ℕ → ℕ) (first capacity place result : ℕ) (later : List ℕ) (last now : Option ℕ) (counts : Buffer ℕ) → length later < place → place < length counts.items → buffer (first ∷ with_last later last) (capacity + 1) ≡ counts
    → IfSome last (λ n. result ≡ f n) → now ≡ Some result
    → buffer (first ∷ with_last later now) (capacity + 1) ≡ buffer (set counts.items place (f (get_or counts.items place 0))) counts.capacity
changed_last f first capacity place result later None now counts above inside is told is_now =
    let long = ap (λ (b : Buffer ℕ). length b.items) is in absurd (omega arith)
changed_last f first capacity place result later (Some l) now counts above inside is told is_now =
    let long = ap (λ (b : Buffer ℕ). length b.items) is in
    let sum = length-append later (l ∷ []) in
    let at : place ≡ suc (length later) = omega arith in
    let all = later ++ l ∷ [] in
    ap (λ o. buffer (first ∷ with_last later o) (capacity + 1)) is_now
    ∙ ap (λ w. buffer (first ∷ w) (capacity + 1)) (sym (set-append_seam later l [] result) ∙ ap (λ n. set all (length later) n) (told ∙ ap f (sym (get_or-append_seam later l [] 0))))
    ∙ ap (λ p. buffer (set (first ∷ all) p (f (get_or (first ∷ all) p 0))) (capacity + 1)) (sym at)
    ∙ ap (λ (b : Buffer ℕ). buffer (set b.items place (f (get_or b.items place 0))) b.capacity) is

-- ---- the first places are dropped

pub cut_first : (first x capacity count : ℕ) (later : List ℕ) (last : Option ℕ) (counts now : Buffer ℕ) → (count ≡ 0 → ⊥) → buffer (first ∷ with_last later last) (capacity + 1) ≡ counts → slice_get later (count - 1) ≡ Some x → now ≡ buffer (drop count later) capacity
    → buffer (x ∷ with_last now.items last) (now.capacity + 1) ≡ buffer (drop count counts.items) counts.capacity
cut_first first x capacity zero later last counts now some is at cut = absurd (some refl)
cut_first first x capacity (suc k) later last counts now some is at cut =
    let before : suc k - 1 ≡ k = omega arith in
    let here : slice_get later k ≡ Some x = ap (slice_get later) (sym before) ∙ at in
    let inside = slice_get_within later k x here in
    (λ i. buffer (x ∷ with_last (cut i).items last) ((cut i).capacity + 1))
    ∙ ap (λ l. buffer l (capacity + 1)) (sym (cons-with_last x (drop (suc k) later) last) ∙ ap (λ l. with_last l last) (sym (drop_from later k x inside (get_or_from_slice_get later k x x here))) ∙ sym (drop-with_last later last k (omega arith)))
    ∙ ap (λ (b : Buffer ℕ). buffer (drop (suc k) b.items) b.capacity) is

-- only the last one is left, which lies apart
pub to_last : (first l capacity count : ℕ) (later : List ℕ) (last : Option ℕ) (counts : Buffer ℕ) → length later < count → count < length counts.items → buffer (first ∷ with_last later last) (capacity + 1) ≡ counts → last ≡ Some l
    → (count ≡ length counts.items - 1) × (l ≡ get_or counts.items (length counts.items - 1) 0)
to_last first l capacity count later last counts above inside is some =
    let whole = ap (λ o. buffer (first ∷ with_last later o) (capacity + 1)) (sym some) ∙ is in
    let long = ap (λ (b : Buffer ℕ). length b.items) whole in
    let sum = length-append later (l ∷ []) in
    let at : length counts.items - 1 ≡ suc (length later) = omega arith in
    (omega arith, sym (get_or-append_seam later l [] 0) ∙ ap (λ (b : Buffer ℕ). get_or b.items (suc (length later)) 0) whole ∙ ap (λ n. get_or counts.items n 0) (sym at))

-- ---- the first place with a cursor

split : (later : List ℕ) (l : ℕ) → first_place (later ++ l ∷ []) ≡ cond (eqb (first_place later) (length later)) (length later + first_place (l ∷ [])) (first_place later)
split later l = prefix_len-append (λ n. not (nat_lt 0 n)) later (l ∷ [])

here : (n : ℕ) → nat_lt 0 n ≡ true → first_place (n ∷ []) ≡ 0
here n some = simp some refl

-- it is among the places between
pub first_between : (first capacity place : ℕ) (later : List ℕ) (last : Option ℕ) (counts : Buffer ℕ) → nat_lt 0 first ≡ false → place ≡ first_place later → place < length later → buffer (first ∷ with_last later last) (capacity + 1) ≡ counts → place + 1 ≡ first_place counts.items
first_between first capacity place later None counts none at inside is =
    let more = first_later first later none in
    let whole = ap (λ (b : Buffer ℕ). first_place b.items) is in
    omega arith
first_between first capacity place later (Some l) counts none at inside is =
    let more = first_later first (later ++ l ∷ []) none in
    let found = split later l ∙ ap (λ b. cond b (length later + first_place (l ∷ [])) (first_place later)) (ne_eqb (first_place later) (length later) (λ e. absurd (omega arith))) in
    let whole = ap (λ (b : Buffer ℕ). first_place b.items) is in
    omega arith

-- it is none of them, and the last one doesn't lie apart
pub first_none : (first capacity place : ℕ) (later : List ℕ) (last : Option ℕ) (counts : Buffer ℕ) → nat_lt 0 first ≡ false → place ≡ first_place later → last ≡ None → buffer (first ∷ with_last later last) (capacity + 1) ≡ counts → place + 1 ≡ first_place counts.items
first_none first capacity place later last counts none at apart is =
    let more = first_later first later none in
    let whole = ap (λ o. first_place (first ∷ with_last later o)) (sym apart) ∙ ap (λ (b : Buffer ℕ). first_place b.items) is in
    omega arith

past : (first capacity l place : ℕ) (later : List ℕ) (last : Option ℕ) (counts : Buffer ℕ) → nat_lt 0 first ≡ false → place ≡ first_place later → place ≡ length later → last ≡ Some l → buffer (first ∷ with_last later last) (capacity + 1) ≡ counts → place + (1 + first_place (l ∷ [])) ≡ first_place counts.items
past first capacity l place later last counts none at all some is =
    let more = first_later first (later ++ l ∷ []) none in
    let found = split later l ∙ ap (λ b. cond b (length later + first_place (l ∷ [])) (first_place later)) (eq-eqb (first_place later) (length later) (sym at ∙ all)) in
    let whole = ap (λ o. first_place (first ∷ with_last later o)) (sym some) ∙ ap (λ (b : Buffer ℕ). first_place b.items) is in
    omega arith

-- it is the last one, which lies apart
pub first_apart : (first capacity l place : ℕ) (later : List ℕ) (last : Option ℕ) (counts : Buffer ℕ) → nat_lt 0 first ≡ false → place ≡ first_place later → place ≡ length later → last ≡ Some l → 0 < l → buffer (first ∷ with_last later last) (capacity + 1) ≡ counts → place + 1 ≡ first_place counts.items
first_apart first capacity l place later last counts none at all some counted is =
    let one = here l (lt-ltb 0 l counted) in
    let whole = past first capacity l place later last counts none at all some is in
    omega arith

-- there is none at all
pub first_nowhere : (first capacity l place : ℕ) (later : List ℕ) (last : Option ℕ) (counts : Buffer ℕ) → nat_lt 0 first ≡ false → place ≡ first_place later → place ≡ length later → last ≡ Some l → l ≤ 0 → buffer (first ∷ with_last later last) (capacity + 1) ≡ counts → place + 2 ≡ first_place counts.items
first_nowhere first capacity l place later last counts none at all some counted is =
    let one = first_later l [] (le-ltb 0 l counted) in
    let whole = past first capacity l place later last counts none at all some is in
    omega arith

-- what is found at a place is its count
pub count_at : (items : List ℕ) (place count : ℕ) → Some count ≡ slice_get items place → count ≡ get_or items place 0
count_at items place count found = sym (get_or_from_slice_get items place count 0 (sym found))

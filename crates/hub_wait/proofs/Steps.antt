-- What letters add to a watch, and a watch along a history.
use Rattle.std.proofs.Common.{◌≡◌, ℕ, ◌+◌, ◌-◌, ◌<◌, ◌≤◌, List, [], ◌∷◌, ◌++◌, map, take, drop, length, max, Bool, true, false, ◌||◌, Option, Some, None, if◌then◌else◌, length-drop, append-nil, subst, refl, ⊎_elim, sym, ap, ◌∙◌, arith}
use Rattle.std.proofs.Math.Bool.{or-false, or-true, or_assoc}
use Rattle.std.specs.List.{list_any}
use Rattle.std.proofs.lemmas.Bool.{or_parts, cases_lt}
use Rattle.std.proofs.lemmas.List.{map-append, drop_all, take_all, take-append-drop, drop-append-le, drop-drop, take-take, length-take, length-take-le}
use Rattle.std.proofs.lemmas.List.Folds.{list_any-append}
use Rattle.hub_letters.specs.declared.flags.Flags.{Flags}
use Rattle.hub_letters.specs.Marks.{Mark, mark, later, last_among, is_life, is_supervision, is_hope, is_began, is_gave_up}
use Rattle.hub_letters.specs.Flags.{up_by, settled_by, flags_by, flags_of}
use Rattle.hub_letters.specs.Marks.{falls, has_fall}
use Rattle.hub_record.specs.declared.Status.{Status}
use Rattle.hub_wait.specs.Watching.{Watching, flag_after, flags_after, flags_after_marks, watching_after_step, renewed_by}
use Rattle.hub_wait.specs.Histories.{ShowsFlagsOf, ShowsFallsOf, MissesNoFall, has_fall_between, IsSlice, Move, Step, Renew, End, is_end, is_renewal, reach, furthest, HasMoved, BeginAtAnyStatus, FollowAnySlices}

-- ---- flags after more letters

or_before : Option Mark → Option Mark → Option Mark
or_before None before = before
or_before (Some m) before = Some m

later_or : (y x : Option Mark) (b : Bool) (m : Mark) → later (or_before y x) b m ≡ or_before y (later x b m)
unfolding or_before
later_or None x b m = refl
later_or (Some n) x b m = refl

or_none : (y : Option Mark) → y ≡ or_before y None
unfolding or_before
or_none None = refl
or_none (Some n) = refl

last_among-append : (p : Mark → Bool) (a b : List Mark) → last_among p (a ++ b) ≡ or_before (last_among p b) (last_among p a)
last_among-append p [] b = or_none (last_among p b)
last_among-append p (m ∷ a) b = ap (λ z. later z (p m) m) (last_among-append p a b) ∙ later_or (last_among p b) (last_among p a) (p m) m

flag_after-or : (by : Option Mark → Bool) (y x : Option Mark) → flag_after (by x) by y ≡ by (or_before y x)
unfolding or_before
flag_after-or by None x = refl
flag_after-or by (Some n) x = refl

flag_after-append : (by : Option Mark → Bool) (p : Mark → Bool) (a b : List Mark) → flag_after (by (last_among p a)) by (last_among p b) ≡ by (last_among p (a ++ b))
flag_after-append by p a b = flag_after-or by (last_among p b) (last_among p a) ∙ ap by (sym (last_among-append p a b))

flags_after_marks-append : (a b : List Mark) → flags_after_marks (flags_by a) b ≡ flags_by (a ++ b)
flags_after_marks-append a b = λ i. record {
  up = flag_after-append up_by is_life a b i;
  settled = flag_after-append settled_by is_life a b i;
  supervised = flag_after-append is_began is_supervision a b i;
  failed = flag_after-append is_gave_up is_hope a b i;
}

flags_after-flags_of : (word letters : List ℕ) → flags_after (flags_of word) letters ≡ flags_of (word ++ letters)
flags_after-flags_of word letters = flags_after_marks-append (map mark word) (map mark letters) ∙ ap flags_by (sym (map-append mark word letters))

-- a word with these flags
word_of : Flags → List ℕ
word_of f = (if f.supervised then 115 ∷ [] else []) ++ (if f.up then (if f.settled then 85 else 117) else (if f.settled then 68 else 100)) ∷ (if f.failed then 79 ∷ [] else [])

flags_of-word_of : (up settled supervised failed : Bool) → flags_of (word_of (record { up = up; settled = settled; supervised = supervised; failed = failed })) ≡ record { up = up; settled = settled; supervised = supervised; failed = failed }
unfolding word_of
flags_of-word_of true true true true = refl
flags_of-word_of true true true false = refl
flags_of-word_of true true false true = refl
flags_of-word_of true true false false = refl
flags_of-word_of true false true true = refl
flags_of-word_of true false true false = refl
flags_of-word_of true false false true = refl
flags_of-word_of true false false false = refl
flags_of-word_of false true true true = refl
flags_of-word_of false true true false = refl
flags_of-word_of false true false true = refl
flags_of-word_of false true false false = refl
flags_of-word_of false false true true = refl
flags_of-word_of false false true false = refl
flags_of-word_of false false false true = refl
flags_of-word_of false false false false = refl

-- what holds after every word with these flags is determined by the letters alone
flags_after_from_words : (f g : Flags) (letters : List ℕ) → ((word : List ℕ) → flags_of word ≡ f → g ≡ flags_of (word ++ letters)) → g ≡ flags_after f letters
flags_after_from_words f g letters h =
    let is = flags_of-word_of f.up f.settled f.supervised f.failed in
    h (word_of f) is ∙ sym (flags_after-flags_of (word_of f) letters) ∙ ap (λ z. flags_after z letters) is

-- what a step writes if it gets letters past those that are known
pub stepped_past : (v w : Watching) (letters : List ℕ) (first : ℕ) (g : Flags) (fall : Bool) → v ≡ w → first ≤ w.at → v.at - first < length letters
    → ((word : List ℕ) → flags_of word ≡ v.flags → g ≡ flags_of (word ++ take (length letters - (v.at - first)) (drop (v.at - first) letters)))
    → fall ≡ has_fall (take (length letters - (v.at - first)) (drop (v.at - first) letters))
    → record v { at = first + length letters; flags = g; fell = v.fell || fall } ≡ watching_after_step w first letters
stepped_past v w letters first g fall e low past h falls =
    let low_here : first ≤ v.at = subst (λ z. first ≤ z.at) (sym e) low in
    let furthest : first + length letters ≡ max v.at (first + length letters) = omega arith in
    let new = drop (v.at - first) letters in
    let whole : take (length letters - (v.at - first)) new ≡ new = take_all (length letters - (v.at - first)) new (omega (arith, length-drop (v.at - first) letters)) in
    let shown : g ≡ flags_after v.flags new = flags_after_from_words v.flags g new (λ word is. h word is ∙ ap (λ z. flags_of (word ++ z)) whole) in
    let fallen : fall ≡ has_fall new = falls ∙ ap has_fall whole in
    (λ i. record v { at = furthest i; flags = shown i; fell = v.fell || fallen i }) ∙ ap (λ z. watching_after_step z first letters) e

-- ---- a watch along a history

slice_joins : (history letters : List ℕ) (first at : ℕ) → first ≤ at → at ≤ first + length letters → letters ≡ drop first (take (first + length letters) history)
    → take at history ++ drop (at - first) letters ≡ take (first + length letters) history
slice_joins history letters first at low high e =
    let n = first + length letters in
    let all = take n history in
    let here : first + (at - first) ≡ at = omega arith in
    ap (λ t. t ++ drop (at - first) letters) (sym (take-take at n history high))
    ∙ ap (λ t. take at all ++ drop (at - first) t) e
    ∙ ap (λ t. take at all ++ t) (drop-drop (at - first) first all ∙ ap (λ k. drop k all) here)
    ∙ take-append-drop at all

-- what a watch knows of the history after a step: what it knew, and the letters that it did not skip
known_after : (history letters : List ℕ) (first at : ℕ) → first ≤ at → IsSlice history first letters
    → take (max at (first + length letters)) history ≡ take at history ++ drop (at - first) letters
known_after history letters first at low s = let end = first + length letters in
    ⊎_elim
    (λ (lt : at < end). let e : max at end ≡ end = omega arith in ap (λ k. take k history) e ∙ sym (slice_joins history letters first at low (omega arith) s.same))
    (λ (le : end ≤ at). let e : max at end ≡ at = omega arith in
    ap (λ k. take k history) e ∙ sym (append-nil (take at history)) ∙ ap (λ l. take at history ++ l) (sym (drop_all (at - first) letters (omega arith))))
    (cases_lt at end)

pub ShowsFlagsOf-stepped : (w : Watching) (history letters : List ℕ) (first : ℕ) → first ≤ w.at → ShowsFlagsOf w history → IsSlice history first letters
    → ShowsFlagsOf (watching_after_step w first letters) history
ShowsFlagsOf-stepped w history letters first low f s =
    let inside = s.within in let had = f.within in
    let new = drop (w.at - first) letters in
    record {
      within = omega arith;
      flags = ap (λ z. flags_after z new) f.flags ∙ flags_after-flags_of (take w.at history) new ∙ ap flags_of (sym (known_after history letters first w.at low s));
    }

-- ---- falls along a history

-- the letters from `since` on are joined with more of them
falls_join : (history new : List ℕ) (since at further : ℕ) → since ≤ at → at ≤ length history → take further history ≡ take at history ++ new
    → has_fall_between history since further ≡ (has_fall_between history since at || has_fall new)
falls_join history new since at further low high e =
    let long : length (take at history) ≡ at = length-take-le at history high in
    ap (λ t. has_fall (drop since t)) e
    ∙ ap has_fall (drop-append-le since (take at history) new (omega (arith, long)))
    ∙ list_any-append falls (drop since (take at history)) new

-- what implies another still does if both are joined with the same
or_implies : (a b n : Bool) → (a ≡ true → b ≡ true) → (a || n) ≡ true → (b || n) ≡ true
or_implies true b n k e = ap (λ z. z || n) (k refl)
or_implies false true n k e = refl
or_implies false false n k e = e

falls_after : (w : Watching) (history letters : List ℕ) (first : ℕ) → first ≤ w.at → w.at ≤ length history → w.since ≤ w.at → IsSlice history first letters
    → has_fall_between history w.since (max w.at (first + length letters)) ≡ (has_fall_between history w.since w.at || has_fall (drop (w.at - first) letters))
falls_after w history letters first low high begun s = falls_join history (drop (w.at - first) letters) w.since w.at _ begun high (known_after history letters first w.at low s)

pub ShowsFallsOf-stepped : (w : Watching) (history letters : List ℕ) (first : ℕ) → first ≤ w.at → w.at ≤ length history → ShowsFallsOf w history → IsSlice history first letters
    → ShowsFallsOf (watching_after_step w first letters) history
ShowsFallsOf-stepped w history letters first low high f s = let begun = f.begun in record {
  begun = omega (arith, begun);
  only = λ e. falls_after w history letters first low high begun s ∙ or_implies w.fell _ _ f.only e;
}

pub MissesNoFall-stepped : (w : Watching) (history letters : List ℕ) (first : ℕ) → first ≤ w.at → w.at ≤ length history → w.since ≤ w.at → IsSlice history first letters
    → MissesNoFall w history → MissesNoFall (watching_after_step w first letters) history
MissesNoFall-stepped w history letters first low high begun s none =
    λ e. or_implies _ w.fell _ none (sym (falls_after w history letters first low high begun s) ∙ e)

-- a fall stays between `since` and what is known
pub falls_onward : (history : List ℕ) (since at further : ℕ) → since ≤ at → at ≤ length history → at ≤ further → has_fall_between history since at ≡ true
    → has_fall_between history since further ≡ true
falls_onward history since at further low high on e =
    let rest = drop at (take further history) in
    let split : take further history ≡ take at history ++ rest =
    sym (take-append-drop at (take further history)) ∙ ap (λ t. t ++ rest) (take-take at further history on) in
    falls_join history rest since at further low high split ∙ or_implies true _ (has_fall rest) (λ z. e) refl

pub ShowsFallsOf-renewed : (w : Watching) (history : List ℕ) (status : Status) → w.at ≤ length history → w.at ≤ status.number → ShowsFallsOf w history
    → ShowsFallsOf (renewed_by w status) history
ShowsFallsOf-renewed w history status high on f = let begun = f.begun in record {
  begun = omega (arith, begun);
  only = λ e. falls_onward history w.since w.at status.number begun high on (f.only e);
}

-- nothing fell between a number and itself
pub none_fell : (history : List ℕ) (n : ℕ) → has_fall_between history n n ≡ false
none_fell history n = ap has_fall (drop_all n (take n history) (omega (arith, length-take n history)))

pub begin_at_any_status : BeginAtAnyStatus
begin_at_any_status history want notifies status is = record {
  follows = record { within = is.within; flags = is.flags };
  falls = record { begun = omega arith; only = λ e. absurd (let z = e in cc) };
  misses_no_fall = λ e. sym (none_fell history status.number) ∙ e;
}

-- what moves have made of a watch, after one more move before them
after_first : (history : List ℕ) (m : Move) (ms : List Move) (w v new : Watching) → HasMoved history ms v new
    → (is_renewal m ≡ false → MissesNoFall w history → MissesNoFall v history) → v.since ≡ w.since → v.at ≡ reach w.at m → v.want ≡ w.want → v.notifies ≡ w.notifies
    → v.ended ≡ (w.ended || is_end m) → HasMoved history (m ∷ ms) w new
after_first history m ms w v new rest first since at want notifies ended = record {
  follows = rest.follows;
  falls = rest.falls;
  misses_no_fall = λ kept none. rest.misses_no_fall (or_parts (is_renewal m) _ kept).1 (first (or_parts (is_renewal m) _ kept).0 none);
  since = rest.since ∙ since;
  at = rest.at ∙ ap (λ k. furthest k ms) at;
  want = rest.want ∙ want;
  notifies = rest.notifies ∙ notifies;
  ended = rest.ended ∙ ap (λ e. e || list_any is_end ms) ended ∙ or_assoc w.ended (is_end m) (list_any is_end ms);
}

pub follow_any_slices : FollowAnySlices
follow_any_slices history [] w f g are = record { follows = f; falls = g; misses_no_fall = λ kept none. none; since = refl; at = refl; want = refl; notifies = refl; ended = sym (or-false w.ended) }
follow_any_slices history (Step first letters ∷ ms) w f g are =
    let follows = ShowsFlagsOf-stepped w history letters first are.0.0 f are.0.1 in
    let rest = follow_any_slices history ms (watching_after_step w first letters) follows (ShowsFallsOf-stepped w history letters first are.0.0 f.within g are.0.1) are.1 in
    after_first history (Step first letters) ms w (watching_after_step w first letters) _ rest
    (λ kept none. MissesNoFall-stepped w history letters first are.0.0 f.within g.begun are.0.1 none) refl refl refl refl (sym (or-false w.ended))
follow_any_slices history (Renew status ∷ ms) w f g are =
    let follows : ShowsFlagsOf (renewed_by w status) history = record { within = are.0.1.within; flags = are.0.1.flags } in
    let rest = follow_any_slices history ms (renewed_by w status) follows (ShowsFallsOf-renewed w history status f.within are.0.0 g) are.1 in
    after_first history (Renew status) ms w (renewed_by w status) _ rest (λ kept. absurd (let z = kept in cc)) refl refl refl refl refl
follow_any_slices history (End ∷ ms) w f g are =
    let ended = record w { ended = true } in
    let follows : ShowsFlagsOf ended history = record { within = f.within; flags = f.flags } in
    let rest = follow_any_slices history ms ended follows (record { begun = g.begun; only = g.only }) are.1 in
    after_first history End ms w ended _ rest (λ kept none. none) refl refl refl refl (sym (or-true w.ended))

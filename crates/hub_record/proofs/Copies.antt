-- What is copied out of two slices that represent one list.
use Rattle.std.proofs.Common.{ℕ, zero, suc, [], ◌∷◌, Some, get_or, slice_get, slice_set, ◌≡◌, ◌+◌, ◌-◌, ◌<◌, ◌≤◌, min, List, ◌++◌, length, take, drop, sym, ap, ◌∙◌, inl, inr, append_assoc, arith}
use Rattle.circular_buffer.specs.Buffer.{Buffer, buffer}
use Rattle.hub_record.specs.World.{as_events}
use Rattle.std.proofs.lemmas.List.{length-take-le, drop-drop, drop_at, drop-append-le, drop_all, take_at, take-append-le}
use Rattle.std.proofs.lemmas.Option.{slice_get_within, get_or_from_slice_get}
use Rattle.std.proofs.lemmas.Bool.{cases_lt}
use Rattle.std.proofs.Math.Seq.{take-add, drop-append-add}
use Rattle.hub_record.specs.declared.Event.{Event}

-- from a place on, if the place is cut between the two
pub drop-parts : (front back : List Event) (place : ℕ) → drop (min place (length front)) front ++ drop (place - min place (length front)) back ≡ drop place (front ++ back)
drop-parts front back place = elim (cases_lt (length front) place) [
  | inl past ↦ (let all : min place (length front) ≡ length front = omega arith in
      let rest : length front + (place - length front) ≡ place = omega arith in
      (λ i. drop (all i) front ++ drop (place - all i) back)
      ∙ ap (λ z. z ++ drop (place - length front) back) (drop_all (length front) front (omega arith))
      ∙ sym (drop-append-add front back (place - length front))
      ∙ ap (λ n. drop n (front ++ back)) rest)
  | inr inside ↦ (let all : min place (length front) ≡ place = omega arith in
      let none : place - place ≡ 0 = omega arith in
      (λ i. drop (all i) front ++ drop (place - all i) back)
      ∙ ap (λ n. drop place front ++ drop n back) none
      ∙ sym (drop-append-le place front back (omega arith)))
]

-- f events of the front slice and b of the back one, one after the other, at the beginning of a slice
pub copied_out : (front back slice one two : List Event) (f b : ℕ) → f ≤ length front → (0 < b → f ≡ length front) → one ≡ take f front → two ≡ take b back
    → take f (one ++ drop f slice) ++ (two ++ drop (f + b - f) (drop f (one ++ drop f slice))) ≡ take (f + b) (front ++ back) ++ drop (f + b) slice
copied_out front back slice one two f b within whole is_one is_two =
    let less : f + b - f ≡ b = omega arith in
    let l = ap length is_one in
    let t = length-take-le f front within in
    let long : length one ≡ f = omega arith in
    let later : take b (drop f (front ++ back)) ≡ take b back = elim (cases_lt 0 b) [
      | inl some ↦ ap (take b) (drop_at front back f (sym (whole some)))
      | inr none ↦ (let nothing : b ≡ 0 = omega arith in ap (λ k. take k (drop f (front ++ back))) nothing ∙ ap (λ k. take k back) (sym nothing))
    ] in
    (λ i. (take_at one (drop f slice) f long ∙ is_one) i ++ (is_two i ++ ((λ j. drop (less j) (drop_at one (drop f slice) f long j)) ∙ drop-drop b f slice) i))
    ∙ sym (append_assoc (take f front) (take b back) (drop (f + b) slice))
    ∙ ap (λ l. l ++ drop (f + b) slice) (sym (take-add f b (front ++ back) ∙ (λ i. take-append-le f front back within i ++ later i)))

take_one : {X : Type 0} (xs : List X) (i : ℕ) (x : X) → i < length xs → get_or xs i x ≡ x → take 1 (drop i xs) ≡ x ∷ []
take_one [] i x inside at = absurd (omega arith)
take_one (y ∷ ys) zero x inside at = ap (λ z. z ∷ []) at
take_one (y ∷ ys) (suc i) x inside at = take_one ys i x (omega arith) at

-- one item is copied
pub copied_one : {X : Type 0} (xs out : List X) (i : ℕ) (x : X) → slice_get xs i ≡ Some x → 0 < length out → slice_set out 0 x ≡ take 1 (drop i xs) ++ drop 1 out
copied_one xs [] i x at some = absurd (omega arith)
copied_one xs (o ∷ os) i x at some = ap (λ ys. ys ++ os) (sym (take_one xs i x (slice_get_within xs i x at) (get_or_from_slice_get xs i x x at)))

pub drop_from : {X : Type 0} (xs : List X) (i : ℕ) (x : X) → i < length xs → get_or xs i x ≡ x → drop i xs ≡ x ∷ drop (suc i) xs
drop_from [] i x inside at = absurd (omega arith)
drop_from (y ∷ ys) zero x inside at = ap (λ z. z ∷ ys) at
drop_from (y ∷ ys) (suc i) x inside at = drop_from ys i x (omega arith) at

-- one letter is appended as one event
pub appended_one : (items : List Event) (capacity over who l : ℕ) (letters : List ℕ) (now : Buffer Event) → over ≡ 0 → length letters ≡ 1 → l ≡ get_or letters 0 l
    → now ≡ buffer (items ++ record { who = who; letter = l } ∷ []) capacity → now ≡ buffer (drop over items ++ as_events who letters) capacity
appended_one items capacity over who l [] now none one at is = absurd (omega arith)
appended_one items capacity over who l (m ∷ []) now none one at is =
    is ∙ ap (λ z. buffer (items ++ record { who = who; letter = z } ∷ []) capacity) at
    ∙ sym (ap (λ n. buffer (drop n items ++ as_events who (m ∷ [])) capacity) none)
appended_one items capacity over who l (m ∷ k ∷ ks) now none one at is = absurd (omega arith)

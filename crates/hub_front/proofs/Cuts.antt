-- An input in pieces, however it is cut.
use Rattle.std.proofs.Common.{◌≡◌, ℕ, ◌+◌, ◌-◌, ◌≤◌, ◌<◌, min, ◌⊎◌, inl, inr, List, [], ◌∷◌, ◌++◌, length, take, map, Option, refl, sym, ap, ◌∙◌, length-append, append-nil, append_assoc, cond, true, false, arith, rules}
use Rattle.std.proofs.lemmas.List.{take-append-le, map-append, take_all, length-take-le, length-map}
use Rattle.std.proofs.Math.Seq.{take-append-add}
use Rattle.hub_io.specs.Lines.{has_lf, BeginsWith, onto_first, complete_of, rest_of, complete_after, rest_after}
use Rattle.hub_io.proofs.Lines.{complete_after-append, rest_after-append, complete_after_few, complete_after-begins, rest_after-begins, complete_after-none}
use Rattle.hub_front.specs.Pieces.{cut, complete_pieces, piece_left}
use Rattle.hub_front.specs.Serving.{Asking, Served, BreaksOff}
use Rattle.hub_front.proofs.Runs.{served_same, served_then, breaks_same, breaks_then, breaks_within}

-- ---- more of a line after what was kept of it

pub short_or_long : (n k : ℕ) → (n < k) ⊎ (k ≤ n)
short_or_long n k = search rules

cut-append : (p q : List ℕ) → cut (cut p ++ q) ≡ cut (p ++ q)
cut-append p q = elim (short_or_long (length p) 513) [
  | inl h ↦ ap (λ l. cut (l ++ q)) (take_all 513 p (omega arith))
  | inr h ↦
      let size : length (take 513 p) ≡ 513 = length-take-le 513 p h in
      take-append-le 513 (take 513 p) q (omega arith) ∙ take_all 513 (take 513 p) (omega arith) ∙ sym (take-append-le 513 p q h)
]

-- as much as there is room for
pub kept : (line piece : List ℕ) (fits : ℕ) → length line ≤ 513 → fits ≡ min (length piece) (513 - length line) → line ++ take fits piece ≡ cut (line ++ piece)
kept line piece fits short e = elim (short_or_long (length piece) (513 - length line)) [
  | inl h ↦ ap (λ l. line ++ l) (take_all fits piece (omega arith)) ∙ sym (take_all 513 (line ++ piece) (omega (arith, length-append line piece)))
  | inr h ↦
      let all : length line + fits ≡ 513 = omega arith in
      sym (take-append-add line piece fits) ∙ ap (λ n. take n (line ++ piece)) all
]

pieces-cut : (ls : List (List ℕ)) (p : List ℕ) → map cut (onto_first (cut p) ls) ≡ map cut (onto_first p ls)
pieces-cut [] p = refl
pieces-cut (l ∷ ls) p = ap (λ x. x ∷ map cut ls) (cut-append p l)

left-cut : (bs p : List ℕ) → piece_left bs (cut p) ≡ piece_left bs p
left-cut bs p = elim (has_lf bs) as (λ t. cut (cond t (rest_of bs) (cut p ++ bs)) ≡ cut (cond t (rest_of bs) (p ++ bs))) [ true ↦ refl | false ↦ cut-append p bs ]

-- ---- bytes, and more of them

done-append : (bs cs kept : List ℕ) → complete_pieces (bs ++ cs) kept ≡ complete_pieces bs kept ++ complete_pieces cs (piece_left bs kept)
done-append bs cs kept =
    ap (map cut) (complete_after-append bs cs kept) ∙ map-append cut (complete_after kept bs) (complete_after (rest_after kept bs) cs)
    ∙ ap (λ ls. complete_pieces bs kept ++ ls) (sym (pieces-cut (complete_of cs) (rest_after kept bs)))

left-append : (bs cs kept : List ℕ) → piece_left (bs ++ cs) kept ≡ piece_left cs (piece_left bs kept)
left-append bs cs kept = ap cut (rest_after-append bs cs kept) ∙ sym (left-cut cs (rest_after kept bs))

-- there are no more lines than bytes
pub done_few : (bs kept : List ℕ) → length (complete_pieces bs kept) ≤ length bs
done_few bs kept = omega (arith, length-map (complete_after kept bs) cut, complete_after_few bs kept)

-- ---- bytes that begin with a line, and bytes without LF

done-begins : (bs line rest kept : List ℕ) → BeginsWith bs line rest → complete_pieces bs kept ≡ cut (kept ++ line) ∷ complete_pieces rest []
done-begins bs line rest kept f = ap (map cut) (complete_after-begins bs line rest f kept)

pub left-begins : (bs line rest kept : List ℕ) → BeginsWith bs line rest → piece_left bs kept ≡ piece_left rest []
left-begins bs line rest kept f = ap cut (rest_after-begins bs line rest f kept)

done-none : (bs kept : List ℕ) → has_lf bs ≡ false → complete_pieces bs kept ≡ []
done-none bs kept none = ap (map cut) (complete_after-none kept bs none)

-- ---- after front was taken, which left line, comes piece

pub done_on : (front piece kept line : List ℕ) → line ≡ piece_left front kept → complete_pieces (front ++ piece) kept ≡ complete_pieces front kept ++ complete_pieces piece line
done_on front piece kept line k = done-append front piece kept ∙ ap (λ l. complete_pieces front kept ++ complete_pieces piece l) (sym k)

pub left_on : (front piece kept line now : List ℕ) → line ≡ piece_left front kept → now ≡ piece_left piece line → now ≡ piece_left (front ++ piece) kept
left_on front piece kept line now k h = h ∙ ap (piece_left piece) k ∙ sym (left-append front piece kept)

pub count_on : (front piece kept line : List ℕ) (n m new : ℕ) → line ≡ piece_left front kept → m ≡ n + length (complete_pieces front kept) → new ≡ m + length (complete_pieces piece line)
    → new ≡ n + length (complete_pieces (front ++ piece) kept)
count_on front piece kept line n m new k h i =
    let sum : length (complete_pieces (front ++ piece) kept) ≡ length (complete_pieces front kept) + length (complete_pieces piece line) =
    ap length (done_on front piece kept line k) ∙ length-append (complete_pieces front kept) (complete_pieces piece line) in
    omega arith

pub served_on : {D : Type 0} {asks : Asking D} {old mid new : D} {held between holds : Option (List ℕ)} (front piece kept line : List ℕ) → line ≡ piece_left front kept
    → Served asks old (complete_pieces front kept) held between mid → Served asks mid (complete_pieces piece line) between holds new → Served asks old (complete_pieces (front ++ piece) kept) held holds new
served_on front piece kept line k p q =
    served_same (sym (done_on front piece kept line k)) (served_then p q)

-- ---- after some lines, while bytes are left: all are the lines of the bytes, and line is what was kept before those left

-- one more line ends
pub done_more : (all done : List (List ℕ)) (left line end rest : List ℕ) → all ≡ done ++ complete_pieces left line → BeginsWith left end rest
    → all ≡ (done ++ cut (line ++ end) ∷ []) ++ complete_pieces rest []
done_more all done left line end rest e f =
    e ∙ ap (λ ls. done ++ ls) (done-begins left end rest line f) ∙ sym (append_assoc done (cut (line ++ end) ∷ []) (complete_pieces rest []))

-- its reply wasn't written whole
pub breaks_among : {D : Type 0} {asks : Asking D} {old mid new : D} {held between holds : Option (List ℕ)} (all done : List (List ℕ)) (left line end rest : List ℕ)
    → all ≡ done ++ complete_pieces left line → BeginsWith left end rest
    → Served asks old done held between mid → BreaksOff asks mid (cut (line ++ end) ∷ []) between holds new → BreaksOff asks old all held holds new
breaks_among all done left line end rest e f p b =
    breaks_same (sym (done_more all done left line end rest e f)) (breaks_within (complete_pieces rest []) (breaks_then p b))

-- and no line is left
pub done_all : (all done : List (List ℕ)) (left line : List ℕ) → all ≡ done ++ complete_pieces left line → has_lf left ≡ false → all ≡ done
done_all all done left line e none = e ∙ ap (λ ls. done ++ ls) (done-none left line none) ∙ append-nil done

-- there are no more lines than bytes
pub done_before : (all done : List (List ℕ)) (left line end rest : List ℕ) (most : ℕ) → length all ≤ most → all ≡ done ++ complete_pieces left line → BeginsWith left end rest → length done + 1 ≤ most
done_before all done left line end rest most few e f =
    omega (arith, few, ap length (done_more all done left line end rest e f), length-append (done ++ cut (line ++ end) ∷ []) (complete_pieces rest []), length-append done (cut (line ++ end) ∷ []))

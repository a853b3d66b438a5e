-- Lines with their LFs.
use Rattle.std.proofs.Common.{◌≡◌, ℕ, ◌<◌, ◌≤◌, false, ◌||◌, List, [], ◌∷◌, ◌++◌, ◌==◌, length, inl, inr, refl, sym, ap, ◌∙◌, subst, arith, append-nil, append_assoc, length-append}
use Rattle.std.proofs.lemmas.Bool.{cases_Bool, eqb-true}
use Rattle.std.proofs.lemmas.Grind.{flat_map-append}
use Rattle.hub_io.specs.Lines.{has_lf, complete_of, rest_of, last_line, lines_of}
use Rattle.hub_io.proofs.Lines.{complete-line, rest-line, lines-line, lines-part}
pub use Rattle.hub_io.proofs.Lines.{complete-none, first_line}
use Rattle.hub_client.specs.Relaying.{ended_lines, line_count}
use Rattle.hub_client.specs.UnderWay.{AreCut}

last-some : (part : List ℕ) → 1 ≤ length part → last_line part ≡ part ∷ []
last-some [] h = absurd (omega arith)
last-some (b ∷ bs) h = refl

-- ---- many lines

pub ended-append : (front back : List (List ℕ)) → ended_lines (front ++ back) ≡ ended_lines front ++ ended_lines back
ended-append front back = flat_map-append (λ line. line ++ 10 ∷ []) front back

pub ended_one : (line : List ℕ) → ended_lines (line ∷ []) ≡ line ++ 10 ∷ []
ended_one line = append-nil (line ++ 10 ∷ [])

-- one more line
pub ended_more : (lines : List (List ℕ)) (line : List ℕ) → ended_lines (lines ++ line ∷ []) ≡ ended_lines lines ++ (line ++ 10 ∷ [])
ended_more lines line = ended-append lines (line ∷ []) ∙ ap (λ l. ended_lines lines ++ l) (ended_one line)

pub ended_first : (line : List ℕ) (lines : List (List ℕ)) (rest : List ℕ) → ended_lines (line ∷ lines) ++ rest ≡ line ++ 10 ∷ (ended_lines lines ++ rest)
ended_first line lines rest = append_assoc (line ++ 10 ∷ []) (ended_lines lines) rest ∙ append_assoc line (10 ∷ []) (ended_lines lines ++ rest)

pub cut_more : (lines : List (List ℕ)) (line : List ℕ) → AreCut lines → has_lf line ≡ false → AreCut (lines ++ line ∷ [])
cut_more [] line c cut = (cut, tt)
cut_more (l ∷ ls) line c cut = (c.0, cut_more ls line c.1 cut)

pub complete-ended : (lines : List (List ℕ)) (rest : List ℕ) → AreCut lines → complete_of (ended_lines lines ++ rest) ≡ lines ++ complete_of rest
complete-ended [] rest c = refl
complete-ended (l ∷ ls) rest c =
    ap complete_of (ended_first l ls rest) ∙ complete-line l (ended_lines ls ++ rest) c.0 ∙ ap (λ x. l ∷ x) (complete-ended ls rest c.1)

pub lines-ended : (lines : List (List ℕ)) (rest : List ℕ) → AreCut lines → lines_of (ended_lines lines ++ rest) ≡ lines ++ lines_of rest
lines-ended [] rest c = refl
lines-ended (l ∷ ls) rest c =
    ap lines_of (ended_first l ls rest) ∙ lines-line l (ended_lines ls ++ rest) c.0 ∙ ap (λ x. l ∷ x) (lines-ended ls rest c.1)

pub rest-ended : (lines : List (List ℕ)) (rest : List ℕ) → AreCut lines → rest_of (ended_lines lines ++ rest) ≡ rest_of rest
rest-ended [] rest c = refl
rest-ended (l ∷ ls) rest c = ap rest_of (ended_first l ls rest) ∙ rest-line l (ended_lines ls ++ rest) ∙ rest-ended ls rest c.1

-- lines, and a part of one
pub lines-ended_part : (lines : List (List ℕ)) (part : List ℕ) → AreCut lines → has_lf part ≡ false → 1 ≤ length part → lines_of (ended_lines lines ++ part) ≡ lines ++ part ∷ []
lines-ended_part lines part c cut some = lines-ended lines part c ∙ ap (λ x. lines ++ x) (lines-part part cut ∙ last-some part some)

pub count-ended : (lines : List (List ℕ)) → AreCut lines → line_count (ended_lines lines) ≡ length lines
count-ended lines c = ap line_count (sym (append-nil (ended_lines lines))) ∙ ap length (complete-ended lines [] c ∙ append-nil lines)

pub count-ended_part : (lines : List (List ℕ)) (part : List ℕ) → AreCut lines → has_lf part ≡ false → line_count (ended_lines lines ++ part) ≡ length lines
count-ended_part lines part c cut = ap length (complete-ended lines part c ∙ ap (λ x. lines ++ x) (complete-none part cut) ∙ append-nil lines)

-- ---- all bytes are lines and a part

record Parts (bytes : List ℕ) : Type 0 where
  lines : List (List ℕ)
  part : List ℕ
  are_cut : AreCut lines
  cut : has_lf part ≡ false
  whole : bytes ≡ ended_lines lines ++ part

parts_more : (b : ℕ) (bs : List ℕ) → (b == 10) ≡ false → (lines : List (List ℕ)) (part : List ℕ) → AreCut lines → has_lf part ≡ false → bs ≡ ended_lines lines ++ part → Parts (b ∷ bs)
parts_more b bs other [] part c cut e = record { lines = []; part = b ∷ part; are_cut = tt; cut = ap (λ t. t || has_lf part) other ∙ cut; whole = ap (λ l. b ∷ l) e }
parts_more b bs other (l ∷ ls) part c cut e = record { lines = (b ∷ l) ∷ ls; part = part; are_cut = (ap (λ t. t || has_lf l) other ∙ c.0, c.1); cut = cut; whole = ap (λ l. b ∷ l) e }

parts : (bytes : List ℕ) → Parts bytes
parts [] = record { lines = []; part = []; are_cut = tt; cut = refl; whole = refl }
parts (b ∷ bs) =
    let p : Parts bs = parts bs in
    elim (cases_Bool (b == 10)) [
      | inl lf ↦ record {
        lines = [] ∷ p.lines;
        part = p.part;
        are_cut = (refl, p.are_cut);
        cut = p.cut;
        whole = ap (λ x. x ∷ bs) (eqb-true b 10 lf) ∙ ap (λ l. 10 ∷ l) p.whole;
      }
      | inr other ↦ parts_more b bs other p.lines p.part p.are_cut p.cut p.whole
    ]

-- a last part gets an LF if it isn't empty
ended_last : (part : List ℕ) → (ending : List ℕ) × (ended_lines (last_line part) ≡ part ++ ending)
ended_last [] = ([], refl)
ended_last (b ∷ bs) = (10 ∷ [], ended_one (b ∷ bs))

-- the bytes are a prefix of their lines with LFs
pub front : (bytes : List ℕ) → (ending : List ℕ) × (ended_lines (lines_of bytes) ≡ bytes ++ ending)
front bytes =
    let p : Parts bytes = parts bytes in
    let (ending, last) = ended_last p.part in
    let cut : lines_of bytes ≡ p.lines ++ last_line p.part = ap lines_of p.whole ∙ lines-ended p.lines p.part p.are_cut ∙ ap (λ x. p.lines ++ x) (lines-part p.part p.cut) in (
      ending,
      ap ended_lines cut ∙ ended-append p.lines (last_line p.part) ∙ ap (λ l. ended_lines p.lines ++ l) last ∙ sym (append_assoc (ended_lines p.lines) p.part ending) ∙ ap (λ l. l ++ ending) (sym p.whole),
    )

-- a part without LF is shorter than the lines of it and more bytes
pub part_short : (part rest : List ℕ) → has_lf part ≡ false → 1 ≤ length (part ++ rest) → length part < length (ended_lines (lines_of (part ++ rest)))
part_short part [] cut some =
    let same : part ++ [] ≡ part = append-nil part in
    let some_byte : 1 ≤ length part = subst (λ l. 1 ≤ length l) same some in
    let one : ended_lines (lines_of (part ++ [])) ≡ part ++ 10 ∷ [] = ap (λ l. ended_lines (lines_of l)) same ∙ ap ended_lines (lines-part part cut ∙ last-some part some_byte) ∙ ended_one part in
    omega (arith, ap length one, length-append part (10 ∷ []))
part_short part (r ∷ rs) cut some =
    let (ending, e) = front (part ++ r ∷ rs) in
    omega (arith, ap length e, length-append (part ++ r ∷ rs) ending, length-append part (r ∷ rs))

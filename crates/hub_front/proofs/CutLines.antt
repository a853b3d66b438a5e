-- The first 513 bytes of each line are enough to answer it.
use Rattle.std.proofs.Common.{◌≡◌, ℕ, ◌≤◌, ◌<◌, inl, inr, List, [], ◌∷◌, ◌++◌, length, map, Option, Result, Ok, Err, refl, sym, ap, ◌∙◌, subst, arith}
use Rattle.std.proofs.lemmas.List.{map-append, take_all, length-take-le, length-map}
use Rattle.hub_requests.specs.declared.reply.Reply.{Reply}
use Rattle.hub_requests.specs.declared.request.Request.{Request}
use Rattle.hub_requests.specs.declared.reply.Refusal.{Refusal}
use Rattle.hub_requests.specs.declared.reply.Refusal.TheVariants.{Long, Text, Word, Form, Range, Memory}
use Rattle.hub_protocol.specs.Reading.{IsReading}
use Rattle.hub_io.specs.Lines.{complete_of, rest_of, last_line, lines_of}
use Rattle.hub_io.proofs.Lines.{onto_first-nil, rest_after-nil}
use Rattle.hub_front.specs.Pieces.{cut, complete_pieces, piece_left, pieces_of}
use Rattle.hub_front.specs.Serving.{Asking, AnswersLine, Run, Served, BreaksOff}
use Rattle.hub_front.proofs.Cuts.{short_or_long}

-- ---- of each line its first 513 bytes are kept

last_line-cut : (r : List ℕ) → last_line (cut r) ≡ map cut (last_line r)
last_line-cut [] = refl
last_line-cut (b ∷ bs) = refl

pub done-whole : (bs : List ℕ) → complete_pieces bs [] ≡ map cut (complete_of bs)
done-whole bs = ap (map cut) (onto_first-nil (complete_of bs))

pub pieces-whole : (bs : List ℕ) → pieces_of bs ≡ map cut (lines_of bs)
pieces-whole bs =
    ap (λ ls. ls ++ last_line (piece_left bs [])) (done-whole bs)
    ∙ ap (λ l. map cut (complete_of bs) ++ last_line (cut l)) (rest_after-nil bs)
    ∙ ap (λ ls. map cut (complete_of bs) ++ ls) (last_line-cut (rest_of bs))
    ∙ sym (map-append cut (complete_of bs) (last_line (rest_of bs)))

-- ---- a line is read as its first 513 bytes are

-- more than 512 bytes are too long, whatever they are
cut_is_long : (line : List ℕ) (read : Result Request Refusal) → 513 ≤ length line → IsReading (cut line) read → 512 < length line × (read ≡ Err Long)
cut_is_long line (Err Long) h r = (omega arith, refl)
cut_is_long line (Ok request) h r = let size : length (cut line) ≡ 513 = length-take-le 513 line h in absurd (omega (arith, r.text.short))
cut_is_long line (Err Text) h r = let size : length (cut line) ≡ 513 = length-take-le 513 line h in absurd (omega (arith, r.0))
cut_is_long line (Err Word) h r = let size : length (cut line) ≡ 513 = length-take-le 513 line h in absurd (omega (arith, r.0.short))
cut_is_long line (Err Form) h r = let size : length (cut line) ≡ 513 = length-take-le 513 line h in absurd (omega (arith, r.0.short))
cut_is_long line (Err Range) h r = let size : length (cut line) ≡ 513 = length-take-le 513 line h in absurd (omega (arith, r.0.short))
cut_is_long line (Err Memory) h r = let size : length (cut line) ≡ 513 = length-take-le 513 line h in absurd (omega (arith, r.1.text.short))
cut_is_long line (Err other) h r = absurd r

reading_of_cut : (line : List ℕ) (read : Result Request Refusal) → IsReading (cut line) read → IsReading line read
reading_of_cut line read r = elim (short_or_long (length line) 513) [
  | inl h ↦ subst (λ l. IsReading l read) (take_all 513 line (omega arith)) r
  | inr h ↦ let long : (512 < length line) × (read ≡ Err Long) = cut_is_long line read h r in subst (λ x. IsReading line x) (sym long.1) long.0
]

answers_of_cut : {D : Type 0} {asks : Asking D} {old new : D} {line : List ℕ} {reply : Reply} → AnswersLine asks old (cut line) reply new → AnswersLine asks old line reply new
answers_of_cut {line = line} a = record { read = a.read; reading = reading_of_cut line a.read a.reading; answered = a.answered }

pub run_of_cut : {D : Type 0} (asks : Asking D) (old : D) (lines : List (List ℕ)) (replies : List Reply) (new : D) → Run asks old (map cut lines) replies new → Run asks old lines replies new
run_of_cut asks old [] [] new r = r
run_of_cut asks old [] (p ∷ ps) new r = absurd r
run_of_cut asks old (l ∷ ls) [] new r = absurd r
run_of_cut asks old (l ∷ ls) (p ∷ ps) new r = (r.0, answers_of_cut r.1, run_of_cut asks r.0 ls ps new r.2)

-- lines of which these are kept
served_of_cut : {D : Type 0} {asks : Asking D} {old new : D} (kept lines : List (List ℕ)) {held holds : Option (List ℕ)} → kept ≡ map cut lines
    → Served asks old kept held holds new → Served asks old lines held holds new
served_of_cut {asks} {old} {new} kept lines e s = record {
  replies = s.replies;
  run = run_of_cut asks old lines s.replies new (subst (λ ls. Run asks old ls s.replies new) e s.run);
  written = s.written;
}

-- if a list of images is split, the list is split too
split_of_map : (ls front : List (List ℕ)) (line : List ℕ) (after : List (List ℕ)) → map cut ls ≡ front ++ line ∷ after
    → (a : List (List ℕ)) × (x : List ℕ) × (b : List (List ℕ)) × (ls ≡ a ++ x ∷ b) × (front ≡ map cut a) × (cut x ≡ line)
split_of_map [] [] line after e = cc
split_of_map [] (f ∷ front) line after e = cc
split_of_map (l ∷ ls) [] line after e = let h : cut l ≡ line = cc in ([], l, ls, refl, refl, h)
split_of_map (l ∷ ls) (f ∷ front) line after e =
    let head : f ≡ cut l = cc in
    let tail : map cut ls ≡ front ++ line ∷ after = cc in
    let (a, x, b, split, same, last) = split_of_map ls front line after tail in
    (l ∷ a, x, b, ap (λ t. l ∷ t) split, ap (λ t. f ∷ t) same ∙ ap (λ t. t ∷ map cut a) head, last)

breaks_of_cut : {D : Type 0} {asks : Asking D} {old new : D} (kept lines : List (List ℕ)) {held holds : Option (List ℕ)} → kept ≡ map cut lines
    → BreaksOff asks old kept held holds new → BreaksOff asks old lines held holds new
breaks_of_cut {asks} {new} kept lines e s =
    let (a, x, b, whole, same, last) = split_of_map lines s.front s.line s.after (sym e ∙ s.among) in
    record {
      front = a;
      line = x;
      after = b;
      among = whole;
      mid = s.mid;
      between = s.between;
      served = served_of_cut s.front a same s.served;
      reply = s.reply;
      answered = answers_of_cut (subst (λ l. AnswersLine asks s.mid l s.reply new) (sym last) s.answered);
      written = s.written;
    }

-- ---- what a session did with the pieces, it did with the lines

pub served_complete : {D : Type 0} {asks : Asking D} {old new : D} (input : List ℕ) {held holds : Option (List ℕ)} → Served asks old (complete_pieces input []) held holds new → Served asks old (complete_of input) held holds new
served_complete input s = served_of_cut (complete_pieces input []) (complete_of input) (done-whole input) s

pub served_lines : {D : Type 0} {asks : Asking D} {old new : D} (input : List ℕ) {held holds : Option (List ℕ)} → Served asks old (pieces_of input) held holds new → Served asks old (lines_of input) held holds new
served_lines input s = served_of_cut (pieces_of input) (lines_of input) (pieces-whole input) s

pub breaks_complete : {D : Type 0} {asks : Asking D} {old new : D} (input : List ℕ) {held holds : Option (List ℕ)} → BreaksOff asks old (complete_pieces input []) held holds new → BreaksOff asks old (complete_of input) held holds new
breaks_complete input s = breaks_of_cut (complete_pieces input []) (complete_of input) (done-whole input) s

pub breaks_lines : {D : Type 0} {asks : Asking D} {old new : D} (input : List ℕ) {held holds : Option (List ℕ)} → BreaksOff asks old (pieces_of input) held holds new → BreaksOff asks old (lines_of input) held holds new
breaks_lines input s = breaks_of_cut (pieces_of input) (lines_of input) (pieces-whole input) s

pub count_lines : (input : List ℕ) → length (pieces_of input) ≡ length (lines_of input)
count_lines input = ap length (pieces-whole input) ∙ length-map (lines_of input) cut

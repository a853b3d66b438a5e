-- A write failed after some reads.
use Rattle.std.proofs.Common.{◌≡◌, ℕ, inl, List, [], ◌∷◌, ◌++◌, map, Option, refl, sym, ap, ◌∙◌, subst}
use Rattle.std.specs.Io.KnownBytes.{Consumes}
use Rattle.std.proofs.KnownBytes.{Consumes-trans}
use Rattle.hub_io.specs.Lines.{complete_of, last_line, lines_of}
use Rattle.hub_front.specs.Pieces.{cut, complete_pieces, pieces_of, IsUnderWay}
use Rattle.hub_front.specs.Serving.{Asking, Run, AreDue}
use Rattle.hub_front.proofs.Cuts.{done_on, done_more}
use Rattle.hub_front.proofs.CutLines.{run_of_cut, done-whole, pieces-whole}
use Rattle.hub_io.specs.Lines.{BeginsWith}
use Rattle.hub_gather.specs.Gathering.{Loses}
use Rattle.hub_gather.specs.Passing.{Gathers}
use Rattle.hub_gather.proofs.Gathered.{loses_same, loses_served, loses_then, loses_within}

-- ---- of each line its first 513 bytes are kept

cons_same : (x y : List ℕ) (xs ys : List (List ℕ)) → x ≡ y → xs ≡ ys → x ∷ xs ≡ y ∷ ys
cons_same x y xs ys e f = ap (λ t. t ∷ xs) e ∙ ap (λ t. y ∷ t) f

-- if a list of images is split, the list is split too
split_of_map : (ls front after : List (List ℕ)) → map cut ls ≡ front ++ after → (a : List (List ℕ)) × (b : List (List ℕ)) × (ls ≡ a ++ b) × (front ≡ map cut a)
split_of_map ls [] after e = ([], ls, refl, refl)
split_of_map [] (f ∷ front) after e = cc
split_of_map (l ∷ ls) (f ∷ front) after e =
    let head : f ≡ cut l = cc in
    let tail : map cut ls ≡ front ++ after = cc in
    let (a, b, split, same) = split_of_map ls front after tail in
    (l ∷ a, b, ap (λ t. l ∷ t) split, cons_same f (cut l) front (map cut a) head same)

loses_of_cut : {D : Type 0} {asks : Asking D} {old new : D} (kept lines : List (List ℕ)) {had has : Option (List ℕ)} {held : List ℕ} → kept ≡ map cut lines
    → Loses asks old kept held had has new → Loses asks old lines held had has new
loses_of_cut {asks} {old} {new} kept lines e s =
    let (a, b, whole, same) = split_of_map lines s.front s.after (sym e ∙ s.among) in
    record {
      front = a;
      after = b;
      among = whole;
      replies = s.replies;
      run = run_of_cut asks old a s.replies new (subst (λ ls. Run asks old ls s.replies new) same s.run);
      sent = s.sent;
      written = s.written;
      lost = s.lost;
      some = s.some;
      texts = s.texts;
    }

-- ---- among the lines of one read

-- a fault at one of the lines is one among all of them
pub loses_among : {D : Type 0} {asks : Asking D} {old mid new : D} {had between has : Option (List ℕ)} {held holding : List ℕ} (all done : List (List ℕ)) (left line end rest : List ℕ)
    → all ≡ done ++ complete_pieces left line → BeginsWith left end rest
    → Gathers asks old done held had between holding mid → Loses asks mid (cut (line ++ end) ∷ []) holding between has new → Loses asks old all held had has new
loses_among all done left line end rest e f p b =
    loses_same (sym (done_more all done left line end rest e f)) (loses_within (complete_pieces rest []) (loses_then p b))

-- ---- after some reads

pub loses_read : {D : Type 0} {asks : Asking D} {old mid new : D} {held between holds had has : Option (List ℕ)} (has' : Option (List ℕ)) {line : List ℕ} {count least : ℕ} (piece : List ℕ)
    → Consumes has has' piece → Loses asks mid (complete_pieces piece line) [] between holds new → IsUnderWay asks old mid held between had has line count least
    → (input : List ℕ) × Consumes had has' input × ((lines : List (List ℕ)) × AreDue input has' lines × Loses asks old lines [] held holds new)
loses_read {had = had} {has} has' {line} piece consumes b u = (
  u.input ++ piece,
  Consumes-trans had has has' u.input piece u.consumed consumes,
  (
    complete_of (u.input ++ piece),
    inl refl,
    loses_of_cut (complete_pieces (u.input ++ piece) []) (complete_of (u.input ++ piece)) (done-whole (u.input ++ piece))
        (loses_same (sym (done_on u.input piece [] line u.kept)) (loses_served u.served b)),
  ),
)

-- the input has ended
pub loses_last : {D : Type 0} {asks : Asking D} {old mid new : D} {held between holds had has : Option (List ℕ)} {line : List ℕ} {count least : ℕ}
    → (u : IsUnderWay asks old mid held between had has line count least) → Loses asks mid (last_line line) [] between holds new → Loses asks old (lines_of u.input) [] held holds new
loses_last u b = loses_of_cut (pieces_of u.input) (lines_of u.input) (pieces-whole u.input) (loses_served u.served (loses_same (ap last_line u.kept) b))

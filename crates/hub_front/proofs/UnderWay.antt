-- A session after the reads so far.
use Rattle.std.proofs.Common.{◌≡◌, ℕ, ◌+◌, ◌≤◌, List, [], ◌++◌, length, inl, Option, refl, sym, ap, ◌∙◌, length-append, zero-add, arith}
use Rattle.std.specs.Io.KnownBytes.{Keeps, Consumes}
use Rattle.std.proofs.KnownBytes.{Consumes-trans, Consumes-kept}
use Rattle.hub_io.specs.Lines.{complete_of, last_line, lines_of}
use Rattle.hub_front.specs.Pieces.{complete_pieces, piece_left, pieces_of, IsUnderWay}
use Rattle.hub_front.specs.Serving.{Asking, Served, BreaksOff, AreDue}
use Rattle.hub_front.proofs.Cuts.{done_on, served_on, left_on, count_on}
use Rattle.hub_front.proofs.CutLines.{served_complete, served_lines, breaks_complete, breaks_lines, count_lines}
use Rattle.hub_front.proofs.Runs.{served_same, served_then, breaks_same, breaks_then}

-- a read gave a piece, and the lines that ended within it were served
pub goes_on : {D : Type 0} {asks : Asking D} {old mid new : D} {held between holds had has has' : Option (List ℕ)} {line line' : List ℕ} {count count' least : ℕ} (piece : List ℕ)
    → 1 ≤ length piece → Consumes has has' piece → Served asks mid (complete_pieces piece line) between holds new → line' ≡ piece_left piece line → count' ≡ count + length (complete_pieces piece line)
    → IsUnderWay asks old mid held between had has line count least → IsUnderWay asks old new held holds had has' line' count' (least + 1)
goes_on {had = had} {has} {has'} {line} {line'} {count} {count'} piece some consumes served l n u =
    let sum : length (u.input ++ piece) ≡ length u.input + length piece = length-append u.input piece in
    record {
      input = u.input ++ piece;
      consumed = Consumes-trans had has has' u.input piece u.consumed consumes;
      long = omega (arith, u.long);
      served = served_on u.input piece [] line u.kept u.served served;
      kept = left_on u.input piece [] line line' u.kept l;
      counted = count_on u.input piece [] line 0 count count' u.kept (u.counted ∙ sym (zero-add _)) n ∙ zero-add _;
    }

-- a read failed, or it was the last
pub stops : {D : Type 0} {asks : Asking D} {old mid : D} {held holds had has : Option (List ℕ)} (has' : Option (List ℕ)) {line : List ℕ} {count least : ℕ}
    → Keeps has has' → (u : IsUnderWay asks old mid held holds had has line count least)
    → Consumes had has' u.input × Served asks old (complete_of u.input) held holds mid
stops {had = had} {has} has' same u = (Consumes-kept had has has' u.input u.consumed same, served_complete u.input u.served)

-- a fault came among the lines that end within a piece
pub breaks : {D : Type 0} {asks : Asking D} {old mid new : D} {held between holds had has : Option (List ℕ)} (has' : Option (List ℕ)) {line : List ℕ} {count least : ℕ} (piece : List ℕ)
    → Consumes has has' piece → BreaksOff asks mid (complete_pieces piece line) between holds new → IsUnderWay asks old mid held between had has line count least
    → (input : List ℕ) × Consumes had has' input × ((lines : List (List ℕ)) × AreDue input has' lines × BreaksOff asks old lines held holds new)
breaks {had = had} {has} has' {line} piece consumes b u = (
  u.input ++ piece,
  Consumes-trans had has has' u.input piece u.consumed consumes,
  (
    complete_of (u.input ++ piece),
    inl refl,
    breaks_complete (u.input ++ piece) (breaks_same (sym (done_on u.input piece [] line u.kept)) (breaks_then u.served b)),
  ),
)

-- ---- the input has ended

pub served_last : {D : Type 0} {asks : Asking D} {old mid new : D} {held between holds had has : Option (List ℕ)} {line : List ℕ} {count least : ℕ}
    → (u : IsUnderWay asks old mid held between had has line count least) → Served asks mid (last_line line) between holds new → Served asks old (lines_of u.input) held holds new
served_last u s = served_lines u.input (served_then u.served (served_same (ap last_line u.kept) s))

pub breaks_last : {D : Type 0} {asks : Asking D} {old mid new : D} {held between holds had has : Option (List ℕ)} {line : List ℕ} {count least : ℕ}
    → (u : IsUnderWay asks old mid held between had has line count least) → BreaksOff asks mid (last_line line) between holds new → BreaksOff asks old (lines_of u.input) held holds new
breaks_last u b = breaks_lines u.input (breaks_then u.served (breaks_same (ap last_line u.kept) b))

pub count_last : {D : Type 0} {asks : Asking D} {old mid : D} {held holds had has : Option (List ℕ)} {line : List ℕ} {count least n : ℕ}
    → (u : IsUnderWay asks old mid held holds had has line count least) → n ≡ count + length (last_line line) → n ≡ length (lines_of u.input)
count_last {line = line} {n = n} u e =
    let same : length (last_line line) ≡ length (last_line (piece_left u.input [])) = ap (λ l. length (last_line l)) u.kept in
    let sum : length (pieces_of u.input) ≡ length (complete_pieces u.input []) + length (last_line (piece_left u.input [])) = length-append (complete_pieces u.input []) (last_line (piece_left u.input [])) in
    let all : n ≡ length (pieces_of u.input) = omega (arith, u.counted) in
    all ∙ count_lines u.input

-- The line that was sent, and the first line that came.
use Rattle.std.proofs.Common.{◌≡◌, Option, Some, ℕ, ◌≤◌, false, List, [], ◌∷◌, ◌++◌, ◌==◌, length, take, inl, inr, refl, sym, ap, ◌∙◌, subst, arith, append-nil, append_assoc}
use Rattle.std.proofs.lemmas.Bool.{cases_Bool}
use Rattle.std.specs.Io.KnownBytes.{Appends}
use Rattle.hub_io.specs.Lines.{complete_of, lines_of}
use Rattle.hub_client.specs.Passing.{has_lf, IsLine}
use Rattle.hub_client.specs.Relaying.{ended_lines, line_count, Finished, Stopped}
use Rattle.hub_client.specs.declared.fault.RelayError.{RelayError}
use Rattle.hub_client.proofs.EndedLines.{complete-none, complete-ended, ended_first, ended_one, first_line, lines-ended_part}
use Rattle.hub_ask.specs.Asking.{IsAnswered, IsBrokenOff}

-- a line that isn't empty is one line
pub one_line : (line : List ℕ) → has_lf line ≡ false → 1 ≤ length line → lines_of line ≡ line ∷ []
one_line line cut some = lines-ended_part [] line tt cut some

pub some_byte : (line : List ℕ) → (length line == 0) ≡ false → 1 ≤ length line
some_byte [] other = cc
some_byte (b ∷ bs) other = omega arith

-- the first line of bytes that have one
record FirstLine (heard : List ℕ) : Type 0 where
  reply : List ℕ
  more : List ℕ
  first : heard ≡ reply ++ more
  whole : IsLine reply
  only : ended_lines (take 1 (complete_of heard)) ≡ reply

first_reply : (heard : List ℕ) → 1 ≤ line_count heard → FirstLine heard
first_reply heard some = elim (cases_Bool (has_lf heard)) [
  | inl lf ↦
      let (line, after, cut, is) = first_line heard lf in
      let again : ended_lines (line ∷ []) ++ after ≡ line ++ 10 ∷ after = ended_first line [] after in
      let cuts : complete_of heard ≡ line ∷ complete_of after = ap complete_of (is ∙ sym again) ∙ complete-ended (line ∷ []) after (cut, tt) in
      record {
        reply = line ++ 10 ∷ [];
        more = after;
        first = is ∙ sym (append_assoc line (10 ∷ []) after);
        whole = record { line = line; cut = cut; ends = refl };
        only = ap (λ ls. ended_lines (take 1 ls)) cuts ∙ ended_one line;
      }
  | inr none ↦
      let zero : line_count heard ≡ 0 = ap length (complete-none heard none) in
      absurd (omega (arith, zero))
]

-- the input was read to its end
read_whole : (request left input : List ℕ) → request ≡ input ++ left → left ≡ [] → input ≡ request
read_whole request left input consumed end = sym (append-nil input) ∙ ap (λ l. input ++ l) (sym end) ∙ sym consumed

-- a relay of one line that finished
pub is_answered : (sent sends had has : Option (List ℕ)) (request left line held out : List ℕ) (n : ℕ)
    → lines_of request ≡ line ∷ [] → held ≡ []
    → Finished (Some request) (Some left) sent sends had has (Some held) (Some out) n
    → IsAnswered sent sends had has line out
is_answered sent sends had has request left line held out n one empty f =
    let whole : f.input ≡ request = read_whole request left f.input f.sent.consumed f.whole in
    let lines : lines_of f.input ≡ line ∷ [] = ap lines_of whole ∙ one in
    let count : n ≡ 1 = f.counted ∙ ap length lines in
    let answered = f.answered in
    let r : FirstLine f.heard = first_reply f.heard (omega (arith, count, answered)) in
    let written : out ≡ r.reply =
    f.written.appended ∙ ap (λ l. l ++ ended_lines (take n (complete_of f.heard))) empty ∙ ap (λ k. ended_lines (take k (complete_of f.heard))) count ∙ r.only in
    record {
      asked = subst (Appends sent sends) (ap ended_lines lines ∙ ended_one line) f.sent.appended;
      heard = f.heard;
      received = f.written.consumed;
      more = r.more;
      first = r.first ∙ ap (λ l. l ++ r.more) (sym written);
      whole = subst IsLine (sym written) r.whole;
    }

-- a relay of one line that stopped
pub is_broken_off : (sent sends had has held holds : Option (List ℕ)) (request left line rest : List ℕ) (e : RelayError)
    → line ++ 10 ∷ [] ≡ request ++ rest
    → Stopped (Some request) (Some left) sent sends had has held holds e
    → IsBrokenOff sent sends had has line
is_broken_off sent sends had has held holds request left line rest e prefix s = record {
  front = s.input;
  back = left ++ rest;
  of_line = prefix ∙ ap (λ l. l ++ rest) s.lines.consumed ∙ append_assoc s.input left rest;
  went = s.sent;
  unsent = s.unsent;
  prefix = s.sent_front;
  asked = s.lines.appended;
  heard = s.heard;
  received = s.replies.consumed;
}

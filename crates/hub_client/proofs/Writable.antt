-- The part of the peer's bytes that may be written.
use Rattle.std.proofs.Common.{◌≡◌, ℕ, ◌+◌, ◌*◌, ◌/◌, ◌<◌, ◌≤◌, true, false, List, [], ◌∷◌, ◌++◌, length, take, inl, inr, refl, sym, ap, ◌∙◌, arith, append-nil, append_assoc, length-append}
use Rattle.std.proofs.lemmas.Bool.{cases_Bool}
use Rattle.std.proofs.lemmas.List.{take_at}
use Rattle.hub_io.specs.declared.reading.TheConstants.{CHUNK}
use Rattle.hub_io.specs.Lines.{has_lf, complete_of, rest_of}
use Rattle.hub_io.proofs.Lines.{has_lf-append, complete-none, rest-none, first_line}
use Rattle.hub_client.specs.Passing.{IsReady}
use Rattle.hub_client.specs.Relaying.{ended_lines, full_buffers, writable}
use Rattle.hub_client.specs.UnderWay.{AreCut}
use Rattle.hub_client.proofs.EndedLines.{complete-ended, rest-ended, ended-append, ended_first}

-- whole buffers, and less than one more
full-front : (front rest : List ℕ) (buffers : ℕ) → length front ≡ buffers * CHUNK → length rest < CHUNK → full_buffers (front ++ rest) ≡ front
full-front front rest buffers full short =
    let size : length (front ++ rest) / CHUNK * CHUNK ≡ length front = omega (arith, length-append front rest) in
    take_at front rest (length (front ++ rest) / CHUNK * CHUNK) (sym size)

writable-part : (part : List ℕ) → has_lf part ≡ false → writable part ≡ full_buffers part
writable-part part cut = ap (λ ls. ended_lines ls ++ full_buffers (rest_of part)) (complete-none part cut) ∙ ap full_buffers (rest-none part cut)

pub writable-ended : (lines : List (List ℕ)) (bytes : List ℕ) → AreCut lines → writable (ended_lines lines ++ bytes) ≡ ended_lines lines ++ writable bytes
writable-ended lines bytes c =
    ap (λ ls. ended_lines ls ++ full_buffers (rest_of (ended_lines lines ++ bytes))) (complete-ended lines bytes c)
    ∙ ap (λ r. ended_lines (lines ++ complete_of bytes) ++ full_buffers r) (rest-ended lines bytes c)
    ∙ ap (λ l. l ++ full_buffers (rest_of bytes)) (ended-append lines (complete_of bytes))
    ∙ append_assoc (ended_lines lines) (ended_lines (complete_of bytes)) (full_buffers (rest_of bytes))

-- after whole replies
pub writable_at : (replies : List (List ℕ)) (passed rest due : List ℕ) → AreCut replies → writable (passed ++ rest) ≡ passed ++ due
    → writable ((ended_lines replies ++ passed) ++ rest) ≡ (ended_lines replies ++ passed) ++ due
writable_at replies passed rest due c e =
    ap writable (append_assoc (ended_lines replies) passed rest) ∙ writable-ended replies (passed ++ rest) c ∙ ap (λ l. ended_lines replies ++ l) e ∙ sym (append_assoc (ended_lines replies) passed due)

writable-line : (line after : List ℕ) → has_lf line ≡ false → writable (line ++ 10 ∷ after) ≡ line ++ 10 ∷ writable after
writable-line line after cut = ap writable (sym (ended_first line [] after)) ∙ writable-ended (line ∷ []) after (cut, tt) ∙ ended_first line [] (writable after)

-- nothing of an unfinished reply that is shorter than a buffer
pub writable_short : (heard : List ℕ) → length (rest_of heard) < CHUNK → writable heard ≡ ended_lines (complete_of heard)
writable_short heard short =
    let none : length (rest_of heard) / CHUNK * CHUNK ≡ 0 = omega arith in
    ap (λ n. ended_lines (complete_of heard) ++ take n (rest_of heard)) none ∙ append-nil (ended_lines (complete_of heard))

pub writable-front : (front rest : List ℕ) (buffers : ℕ) → has_lf front ≡ false → has_lf rest ≡ false → length front ≡ buffers * CHUNK → length rest < CHUNK → writable (front ++ rest) ≡ front
writable-front front rest buffers cut none full short = writable-part (front ++ rest) (has_lf-append front rest cut ∙ none) ∙ full-front front rest buffers full short

-- the LF has come
due_line : (front rest : List ℕ) → has_lf front ≡ false → has_lf rest ≡ true → (due : List ℕ) × (writable (front ++ rest) ≡ front ++ due) × (1 ≤ length due)
due_line front rest cut lf =
    let (line, after, none, is) = first_line rest lf in (
      line ++ 10 ∷ writable after,
      ap (λ l. writable (front ++ l)) is ∙ ap writable (sym (append_assoc front line (10 ∷ after))) ∙ writable-line (front ++ line) after (has_lf-append front line cut ∙ none) ∙ append_assoc front line (10 ∷ writable after),
      omega (arith, length-append line (10 ∷ writable after)),
    )

-- the buffer is full
due_full : (front rest : List ℕ) (buffers : ℕ) → has_lf front ≡ false → has_lf rest ≡ false → length (front ++ rest) ≡ buffers * CHUNK → 1 ≤ length rest → (due : List ℕ) × (writable (front ++ rest) ≡ front ++ due) × (1 ≤ length due)
due_full front rest buffers cut none full some =
    let all : front ++ rest ≡ (front ++ rest) ++ [] = sym (append-nil (front ++ rest)) in
    (rest, ap writable all ∙ writable-front (front ++ rest) [] buffers (has_lf-append front rest cut ∙ none) refl full (omega arith), some)

-- a piece of what may be written wasn't written whole
pub due : (front piece rest : List ℕ) (buffers : ℕ) → has_lf front ≡ false → length front ≡ buffers * CHUNK → has_lf piece ≡ false → 1 ≤ length rest → IsReady (piece ++ rest)
    → (due : List ℕ) × (writable ((front ++ piece) ++ rest) ≡ (front ++ piece) ++ due) × (1 ≤ length due)
due front piece rest buffers cut full cut' some ready =
    let none : has_lf (front ++ piece) ≡ false = has_lf-append front piece cut ∙ cut' in
    elim (cases_Bool (has_lf rest)) [
      | inl lf ↦ due_line (front ++ piece) rest none lf
      | inr other ↦ elim ready [
        | inl lf ↦ let both : has_lf (piece ++ rest) ≡ false = has_lf-append piece rest cut' ∙ other in cc
        | inr size ↦ due_full (front ++ piece) rest (buffers + 1) none other (omega (arith, size, length-append (front ++ piece) rest, length-append front piece, length-append piece rest)) some
      ]
    ]

-- The pieces of what is pending, as they are written. seen are the buffer's bytes as the code reads them.
use Rattle.std.proofs.Common.{◌≡◌, ℕ, ◌+◌, ◌-◌, ◌<◌, ◌≤◌, Bool, true, false, List, [], ◌∷◌, ◌++◌, length, length-append, length-drop, take, drop, take-append-drop, Bor, Option, None, Some, MatchBool, MatchOption, is_some, sym, ap, ◌∙◌, subst, arith}
use Rattle.std.specs.Io.KnownBytes.{Appends}
use Rattle.std.proofs.Math.Seq.{take-append-add}
use Rattle.std.proofs.lemmas.List.{length-take-le, take-take, take-append-le}
use Rattle.hub_io.specs.Faults.{AppendsPart}
use Rattle.hub_io.specs.Lines.{has_lf, IsLine, BeginsWith}
use Rattle.hub_io.proofs.Lines.{has_lf-line, has_lf-front}
use Rattle.hub_client.proofs.Moving.{between_later, between_none}

abbrev pub between : List ℕ → (start end : ℕ) → List ℕ
between items start end = take (end - start) (drop start items)

-- ---- the first piece: up to the first LF and including it, or all of them if they have none

-- what is said of it: whole is whether the bytes have an LF
abbrev IsPiece : (bytes : List ℕ) → (size : ℕ) → (whole : Bool) → Type 0
IsPiece bytes size whole = MatchBool whole (IsLine (take size bytes)) ((has_lf bytes ≡ false) × (size ≡ length bytes))

module _ (bytes line rest : List ℕ) (f : BeginsWith bytes line rest) where
  pub line_within : length line + 1 ≤ length bytes
  line_within = omega (arith, ap length f.whole, length-append line (10 ∷ rest))

  pub line_piece : IsLine (take (length line + 1) bytes)
  line_piece = record { line = line; cut = f.cut; ends = ap (take (length line + 1)) f.whole ∙ take-append-add line (10 ∷ rest) 1 }

pub some_is : (bs : List ℕ) (o : Option (Bor (List ℕ) × Bor (List ℕ))) → MatchOption o (has_lf bs ≡ false) (λ parts. BeginsWith bs parts.0.now parts.1.now) → is_some o ≡ has_lf bs
some_is bs None f = sym f
some_is bs (Some parts) f = sym (ap has_lf f.whole ∙ has_lf-line parts.0.now parts.1.now)

has_lf-take : (n : ℕ) (bs : List ℕ) → has_lf bs ≡ false → has_lf (take n bs) ≡ false
has_lf-take n bs e = has_lf-front (take n bs) (drop n bs) (ap has_lf (take-append-drop n bs) ∙ e)

-- less than a line with its LF has no LF
line_front : (bytes : List ℕ) (n : ℕ) → IsLine bytes → n < length bytes → has_lf (take n bytes) ≡ false
line_front bytes n l less =
    let short : n ≤ length l.line = omega (arith, ap length l.ends, length-append l.line (10 ∷ [])) in
    ap (λ bs. has_lf (take n bs)) l.ends ∙ ap has_lf (take-append-le n l.line (10 ∷ []) short) ∙ has_lf-take n l.line l.cut

piece_front : (bytes : List ℕ) (size : ℕ) (whole : Bool) (n : ℕ) → IsPiece bytes size whole → size ≤ length bytes → n < size → has_lf (take n bytes) ≡ false
piece_front bytes size true n is within less =
    let long : length (take size bytes) ≡ size = length-take-le size bytes within in
    ap has_lf (sym (take-take n size bytes (omega arith))) ∙ line_front (take size bytes) n is (omega arith)
piece_front bytes size false n is within less = has_lf-take n bytes is.0

-- ---- what is pending

length-between : (items : List ℕ) (start end : ℕ) → start ≤ end → end ≤ length items → length (between items start end) ≡ end - start
length-between items start end ordered within = let room : end - start ≤ length (drop start items) = omega (arith, length-drop start items) in length-take-le (end - start) (drop start items) room

-- the bytes before a place are written, and those behind it are pending
split : (items : List ℕ) (start end size : ℕ) → start ≤ end → end ≤ length items → size ≤ length (between items start end)
    → between items start end ≡ take size (between items start end) ++ between items (start + size) end
split items start end size ordered within fits =
    let room : start + size ≤ end = omega (arith, length-between items start end ordered within) in
    sym (take-append-drop size (between items start end)) ∙ ap (λ l. take size (between items start end) ++ l) (between_later items start end size room)

all_passed : (items : List ℕ) (start end size : ℕ) (whole : Bool) → start ≤ end → end ≤ length items → IsPiece (between items start end) size whole
    → MatchBool whole (IsLine (take size (between items start end))) ((has_lf (take size (between items start end)) ≡ false) × (between items (start + size) end ≡ []))
all_passed items start end size true ordered within is = is
all_passed items start end size false ordered within is =
    (has_lf-take size (between items start end) is.0, between_none items (start + size) end (omega (arith, is.1, length-between items start end ordered within)))

module _ (held holds : Option (List ℕ)) (items seen : List ℕ) (start end size : ℕ) (whole : Bool) (same : seen ≡ items) (ordered : start ≤ end) (within : end ≤ length items)
    (fits : size ≤ length (between seen start end)) (is : IsPiece (between seen start end) size whole) where
  same_between : between seen start end ≡ between items start end
  same_between = ap (λ l. between l start end) same

  fits_so : size ≤ length (between items start end)
  fits_so = subst (λ l. size ≤ length l) same_between fits

  is_so : IsPiece (between items start end) size whole
  is_so = subst (λ l. IsPiece l size whole) same_between is

  pub written : Appends held holds (take size (between seen start end))
      → (piece : List ℕ) × (between items start end ≡ piece ++ between items (start + size) end)
      × MatchBool whole (IsLine piece) ((has_lf piece ≡ false) × (between items (start + size) end ≡ [])) × Appends held holds piece
  written a = (
    take size (between items start end),
    split items start end size ordered within fits_so,
    all_passed items start end size whole ordered within is_so,
    subst (λ l. Appends held holds (take size l)) same_between a,
  )

  -- a prefix was written
  pub broken : AppendsPart held holds (take size (between seen start end))
      → (piece rest : List ℕ) × (between items start end ≡ piece ++ rest) × (1 ≤ length rest) × (has_lf piece ≡ false) × Appends held holds piece
  broken a =
      let bytes = between items start end in
      let long : length (take size (between seen start end)) ≡ size = length-take-le size (between seen start end) fits in
      let short : a.count < size = omega (arith, a.part) in
      let less : a.count ≤ size = omega arith in (
        take a.count bytes,
        drop a.count bytes,
        sym (take-append-drop a.count bytes),
        omega (arith, length-drop a.count bytes, fits_so),
        piece_front bytes size whole a.count is_so fits_so short,
        subst (Appends held holds) (take-take a.count size (between seen start end) less ∙ ap (take a.count) same_between) a.written,
      )

-- A reply on its way through a buffer.
use Rattle.std.proofs.Common.{◌≡◌, ℕ, ◌+◌, ◌≤◌, false, List, [], ◌++◌, length, Option, inl, inr, refl, sym, ap, ◌∙◌, subst, arith, append-nil, length-append}
use Rattle.std.specs.Io.KnownBytes.{Appends, IsAtEnd}
use Rattle.hub_io.specs.declared.reading.TheConstants.{CHUNK}
use Rattle.hub_io.specs.declared.fault.FrontError.{FrontError}
use Rattle.hub_io.specs.declared.fault.FrontError.TheVariants.{Read, Write, Turns, Memory}
use Rattle.hub_io.specs.Lines.{has_lf}
use Rattle.hub_client.specs.Passing.{Moves, IsInPieces, IsReady, IsShort, slack_at, FailsAs, FailsInPieces}
use Rattle.hub_client.specs.Relaying.{writable}
use Rattle.hub_client.proofs.Moving.{moves_reads, moves_more}
use Rattle.hub_client.proofs.OnTheWay.{passes_none, passes_more}
use Rattle.hub_client.proofs.Writable.{writable-front, due}

pub begins : (has held : Option (List ℕ)) (makes : Option ℕ) (p : List ℕ) (left : ℕ) → IsInPieces has has held held makes makes p p left left
begins has held makes p left = record { passed = []; way = passes_none has held makes p left; buffers = 0; full = refl }

fails_so : (e : FrontError) (rest : List ℕ) (left' : ℕ) → FailsAs e [] left' → has_lf rest ≡ false → FailsInPieces e [] rest left'
fails_so Read rest left' f cut = (refl, cut)
fails_so Write rest left' f cut = absurd (omega arith)
fails_so Turns rest left' f cut = (refl, cut, f.1)
fails_so Memory rest left' f cut = absurd f

module _ {had mid has held holds : Option (List ℕ)} {made much makes : Option ℕ} {before between : List ℕ} {left some left' : ℕ}
    (w : IsInPieces had mid held holds made much before between left some) where
  -- the stream ended
  pub ends : (after : List ℕ) → Moves mid has much makes between after some left' 1 [] → IsShort after → IsAtEnd has
      → (passed : List ℕ) × Appends held holds passed
      × (Moves had has made makes before after left left' 1 passed × (has_lf passed ≡ false) × (writable (passed ++ after) ≡ passed) × (has_lf after ≡ false) × IsAtEnd has)
  ends after m short end = (w.passed, w.way.written, (moves_reads w.way.moved m, w.way.cut, writable-front w.passed after w.buffers w.way.cut short.0 w.full short.1, short.0, end))

  -- no more was read
  pub fails : (e : FrontError) (after : List ℕ) → Moves mid has much makes between after some left' (slack_at e) [] → FailsAs e [] left' → IsShort after
      → (passed rest due : List ℕ) × Moves had has made makes before rest left left' (slack_at e) passed × (has_lf passed ≡ false) × (writable (passed ++ rest) ≡ passed ++ due)
      × FailsInPieces e due rest left' × Appends held holds passed
  fails e after m f short = (
    w.passed,
    after,
    [],
    moves_reads w.way.moved m,
    w.way.cut,
    writable-front w.passed after w.buffers w.way.cut short.0 w.full short.1 ∙ sym (append-nil w.passed),
    fails_so e after left' f short.0,
    w.way.written,
  )

  -- a piece wasn't written whole
  pub breaks : (held' : Option (List ℕ)) {pending : List ℕ} → Moves mid has much makes between pending some left' 0 [] → IsReady pending → (piece rest : List ℕ) → pending ≡ piece ++ rest → 1 ≤ length rest → has_lf piece ≡ false → Appends holds held' piece
      → (passed rest due : List ℕ) × Moves had has made makes before rest left left' 1 passed × (has_lf passed ≡ false) × (writable (passed ++ rest) ≡ passed ++ due)
      × FailsInPieces Write due rest left' × Appends held held' passed
  breaks held' m ready piece rest e some_byte cut a =
      let (later, is, some_due) = due w.passed piece rest w.buffers w.way.cut w.full cut some_byte (subst IsReady e ready) in
      let more = passes_more w.way held' piece rest m e cut a in
      (w.passed ++ piece, rest, later, moves_more more.moved, more.cut, is, some_due, more.written)

  -- a full buffer without LF was written
  pub goes_on : {held' : Option (List ℕ)} {pending : List ℕ} (piece after : List ℕ) → Moves mid has much makes between pending some left' 0 [] → IsReady pending → pending ≡ piece ++ after → after ≡ [] → has_lf piece ≡ false
      → Appends holds held' piece → IsInPieces had has held held' made makes before after left left'
  goes_on {held' = held'} {pending = pending} piece after m ready e empty cut a =
      let same : pending ≡ piece = e ∙ ap (λ l. piece ++ l) empty ∙ append-nil piece in
      let size : length pending ≡ CHUNK = elim ready [ inl lf ↦ let other : has_lf pending ≡ false = ap has_lf same ∙ cut in cc | inr full ↦ full ] in
      record {
        passed = w.passed ++ piece;
        way = passes_more w.way held' piece after m e cut a;
        buffers = w.buffers + 1;
        full = omega (arith, w.full, size, ap length same, length-append w.passed piece);
      }

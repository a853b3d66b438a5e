-- A line on its way through a buffer.
use Rattle.std.proofs.Common.{◌≡◌, ℕ, ◌+◌, ◌≤◌, Bool, true, false, List, [], ◌∷◌, ◌++◌, length, Option, MatchBool, if◌then◌else◌, refl, sym, ap, ◌∙◌, subst, arith, append_assoc, length-append}
use Rattle.std.specs.Io.KnownBytes.{Appends, IsAtEnd}
use Rattle.std.proofs.KnownBytes.{Appends-nil, Appends-trans}
use Rattle.hub_io.specs.declared.fault.FrontError.{FrontError}
use Rattle.hub_io.specs.declared.fault.FrontError.TheVariants.{Write}
use Rattle.hub_client.specs.declared.passing.Passed.{Passed}
use Rattle.hub_client.specs.declared.passing.Passed.TheVariants.{Part, Nothing}
use Rattle.hub_io.specs.Lines.{has_lf, IsLine}
use Rattle.hub_io.proofs.Lines.{has_lf-append}
use Rattle.hub_client.specs.Passing.{Moves, IsPassing, IsOnItsWay, slack_of, slack_at, EndsAs, FailsAs}
use Rattle.hub_client.proofs.Moving.{stays, moves_piece, moves_reads, moves_more}

pub on_true : (P Q : Type 0) (b : Bool) → b ≡ true → MatchBool b P Q → P
on_true P Q b e h = subst (λ t. MatchBool t P Q) e h

pub on_false : (P Q : Type 0) (b : Bool) → b ≡ false → MatchBool b P Q → Q
on_false P Q b e h = subst (λ t. MatchBool t P Q) e h

-- ---- a part of a line

pub passes_none : (has held : Option (List ℕ)) (makes : Option ℕ) (p : List ℕ) (left : ℕ) → IsPassing has has held held makes makes p p left left []
passes_none has held makes p left = record { moved = stays has makes p left 0; written = Appends-nil held; cut = refl }

module _ {had mid has held holds : Option (List ℕ)} {made much makes : Option ℕ} {before between : List ℕ} {left some left' : ℕ} {passed : List ℕ}
    (w : IsPassing had mid held holds made much before between left some passed) where
  -- a piece without LF was written
  pub passes_more : (held' : Option (List ℕ)) {pending : List ℕ} (piece after : List ℕ) → Moves mid has much makes between pending some left' 0 [] → pending ≡ piece ++ after → has_lf piece ≡ false → Appends holds held' piece
      → IsPassing had has held held' made makes before after left left' (passed ++ piece)
  passes_more held' piece after m e cut a = record {
    moved = moves_piece piece after e (moves_reads w.moved m);
    written = Appends-trans held holds held' passed piece w.written a;
    cut = has_lf-append passed piece w.cut ∙ cut;
  }

  -- the LF was written
  pub arrives : (held' : Option (List ℕ)) {pending : List ℕ} (piece after : List ℕ) → Moves mid has much makes between pending some left' 0 [] → pending ≡ piece ++ after → IsLine piece → Appends holds held' piece
      → (passed : List ℕ) × Moves had has made makes before after left left' 0 passed × IsLine passed × Appends held held' passed
  arrives held' piece after m e line a = (
    passed ++ piece,
    moves_piece piece after e (moves_reads w.moved m),
    record {
      line = passed ++ line.line;
      cut = has_lf-append passed line.line w.cut ∙ line.cut;
      ends = ap (λ l. passed ++ l) line.ends ∙ sym (append_assoc passed line.line (10 ∷ []));
    },
    Appends-trans held holds held' passed piece w.written a,
  )

-- ---- a line

pub begins : (has held : Option (List ℕ)) (makes : Option ℕ) (p : List ℕ) (left : ℕ) → IsOnItsWay has has held held makes makes p p left left false
begins has held makes p left = record { passed = []; way = passes_none has held makes p left; begun = refl }

module _ {had mid has held holds : Option (List ℕ)} {made much makes : Option ℕ} {before between : List ℕ} {left some left' : ℕ} {flag : Bool}
    (w : IsOnItsWay had mid held holds made much before between left some flag) where
  -- the stream ended
  ends_as : (t : Bool) (after : List ℕ) → flag ≡ t → Moves mid has much makes between [] some left' 1 [] → after ≡ [] → IsAtEnd has
      → (passed : List ℕ) × Moves had has made makes before after left left' (slack_of (if t then Part else Nothing)) passed × EndsAs (if t then Part else Nothing) passed after has × Appends held holds passed
  ends_as true after e m empty end =
      let some_byte : 1 ≤ length w.passed = on_true _ _ flag e w.begun in
      (w.passed, subst (λ l. Moves had has made makes before l left left' 1 w.passed) (sym empty) (moves_reads w.way.moved m), (some_byte, w.way.cut, empty, end), w.way.written)
  ends_as false after e m empty end =
      let none : w.passed ≡ [] = on_false _ _ flag e w.begun in
      (w.passed, subst (λ l. Moves had has made makes before l left left' 1 w.passed) (sym empty) (moves_reads w.way.moved m), (none, empty, end), w.way.written)

  pub ends : (r : Passed) (after : List ℕ) → r ≡ (if flag then Part else Nothing) → Moves mid has much makes between [] some left' 1 [] → after ≡ [] → IsAtEnd has
      → (passed : List ℕ) × Moves had has made makes before after left left' (slack_of r) passed × EndsAs r passed after has × Appends held holds passed
  ends r after e m empty end =
      subst (λ x. (passed : List ℕ) × Moves had has made makes before after left left' (slack_of x) passed × EndsAs x passed after has × Appends held holds passed) (sym e)
      (ends_as flag after refl m empty end)

  -- no more was read
  pub fails : (e : FrontError) → Moves mid has much makes between [] some left' (slack_at e) [] → FailsAs e [] left'
      → (passed rest : List ℕ) × Moves had has made makes before rest left left' (slack_at e) passed × FailsAs e rest left' × (has_lf passed ≡ false) × Appends held holds passed
  fails e m f = (w.passed, [], moves_reads w.way.moved m, f, w.way.cut, w.way.written)

  -- a piece wasn't written whole
  pub breaks : (held' : Option (List ℕ)) {pending : List ℕ} → Moves mid has much makes between pending some left' 0 [] → (piece rest : List ℕ) → pending ≡ piece ++ rest → 1 ≤ length rest → has_lf piece ≡ false → Appends holds held' piece
      → (passed rest : List ℕ) × Moves had has made makes before rest left left' 1 passed × FailsAs Write rest left' × (has_lf passed ≡ false) × Appends held held' passed
  breaks held' m piece rest e some_byte cut a =
      let more = passes_more w.way held' piece rest m e cut a in
      (w.passed ++ piece, rest, moves_more more.moved, some_byte, more.cut, more.written)

  -- a piece without LF was written, and nothing is left of what was read
  pub goes_on : {held' : Option (List ℕ)} {pending : List ℕ} (piece after : List ℕ) → Moves mid has much makes between pending some left' 0 [] → pending ≡ piece ++ after → after ≡ [] → 1 ≤ length pending → has_lf piece ≡ false
      → Appends holds held' piece → IsOnItsWay had has held held' made makes before after left left' true
  goes_on {held' = held'} {pending = pending} piece after m e empty some_byte cut a =
      let sum : length pending ≡ length piece + length after = ap length e ∙ length-append piece after in
      let none : length after ≡ 0 = ap length empty in
      record { passed = w.passed ++ piece; way = passes_more w.way held' piece after m e cut a; begun = omega (arith, length-append w.passed piece) }

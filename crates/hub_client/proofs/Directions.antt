-- One direction of a relay: the lines that passed, and those before a reply.
use Rattle.std.proofs.Common.{◌≡◌, ◌≢◌, ℕ, ◌+◌, ◌≤◌, false, List, [], ◌∷◌, ◌++◌, length, Option, refl, sym, ap, ◌∙◌, subst, arith, append-nil, append_assoc, length-append}
use Rattle.std.specs.Io.KnownBytes.{Appends, Consumes}
use Rattle.std.proofs.KnownBytes.{Consumes-nil, Consumes-trans, Appends-nil, Appends-trans}
use Rattle.hub_io.specs.Lines.{has_lf, IsLine, lines_of}
use Rattle.hub_io.specs.Telling.{Rises}
use Rattle.hub_io.proofs.Told.{Grows-none, Rises-add}
use Rattle.hub_client.specs.Relaying.{ended_lines}
use Rattle.hub_client.specs.declared.passing.Passed.{Passed}
use Rattle.hub_client.specs.declared.passing.Passed.TheVariants.{Line, Part, Nothing}
use Rattle.hub_client.specs.Passing.{Moves, slack_of, EndsAs}
use Rattle.hub_client.specs.UnderWay.{sent_of, HasPassed, HasSent}
use Rattle.hub_client.proofs.EndedLines.{ended_more, cut_more, lines-ended, lines-ended_part}

-- ---- the lines that passed

-- nothing has passed
pub has_passed_none : (has held : Option (List ℕ)) (makes : Option ℕ) (pending : List ℕ) → pending ≡ [] → HasPassed has has held held makes makes pending 0 0
has_passed_none has held makes pending empty = record {
  lines = [];
  cut = tt;
  counted = refl;
  consumed = subst (Consumes has has) (sym empty) (Consumes-nil has);
  appended = Appends-nil held;
  told = Grows-none makes;
  least = omega arith;
}

module _ {had mid has held between : Option (List ℕ)} {made much makes : Option ℕ} {before after passed : List ℕ} {count reads left left' slack : ℕ}
    (p : HasPassed had mid held between made much before count reads) (m : Moves mid has much makes before after left left' slack passed) where
  -- all that was read, as it was read and as it passed
  whole : (ended_lines p.lines ++ before) ++ m.bytes ≡ (ended_lines p.lines ++ passed) ++ after
  whole =
      append_assoc (ended_lines p.lines) before m.bytes ∙ ap (λ l. ended_lines p.lines ++ l) m.kept ∙ sym (append_assoc (ended_lines p.lines) passed after)

  pub consumed_all : Consumes had has ((ended_lines p.lines ++ passed) ++ after)
  consumed_all = subst (Consumes had has) whole (Consumes-trans had mid has (ended_lines p.lines ++ before) m.bytes p.consumed m.consumed)

  told_all : Rises made makes (reads + m.reads)
  told_all = Rises-add made much makes reads m.reads p.told m.told

  pub least_all : reads + m.reads ≤ length ((ended_lines p.lines ++ passed) ++ after) + slack
  least_all = omega (arith, p.least, m.least, ap length whole, length-append (ended_lines p.lines ++ before) m.bytes)

-- one more line passed
pub passes_line : {had mid has held between holds : Option (List ℕ)} {made much makes : Option ℕ} {before after passed : List ℕ} {count reads left left' : ℕ}
    → (p : HasPassed had mid held between made much before count reads) (m : Moves mid has much makes before after left left' 0 passed)
    → IsLine passed → Appends between holds passed → HasPassed had has held holds made makes after (count + 1) (reads + m.reads)
passes_line {had} {mid} {has} {held} {between} {holds} {after = after} {passed = passed} {count} {reads} p m line a =
    let more : ended_lines p.lines ++ passed ≡ ended_lines (p.lines ++ line.line ∷ []) = ap (λ l. ended_lines p.lines ++ l) line.ends ∙ sym (ended_more p.lines line.line) in
    record {
      lines = p.lines ++ line.line ∷ [];
      cut = cut_more p.lines line.line p.cut line.cut;
      counted = omega (arith, p.counted, length-append p.lines (line.line ∷ []));
      consumed = subst (λ l. Consumes had has (l ++ after)) more (consumed_all p m);
      appended = subst (Appends held holds) more (Appends-trans held between holds (ended_lines p.lines) passed p.appended a);
      told = told_all p m;
      least = subst (λ l. reads + m.reads ≤ length (l ++ after)) more (omega (arith, least_all p m));
    }

-- ---- the lines before a reply

pub sent_lines : {had has held holds : Option (List ℕ)} {made makes : Option ℕ} {pending : List ℕ} {count reads : ℕ}
    → HasPassed had has held holds made makes pending count reads → HasSent had has held holds made makes (lines_of pending) count reads
sent_lines {pending = pending} p = record {
  input = ended_lines p.lines ++ pending;
  lines = p.lines;
  cut = p.cut;
  counted = p.counted;
  consumed = p.consumed;
  appended = p.appended;
  split = lines-ended p.lines pending p.cut;
  told = p.told;
  least = omega (arith, p.least);
}

-- a last line without an LF was sent with one
pub sent_part : {had mid has held between holds : Option (List ℕ)} {made much makes : Option ℕ} {before after passed : List ℕ} {count reads left left' : ℕ}
    → (p : HasPassed had mid held between made much before count reads) (m : Moves mid has much makes before after left left' 1 passed)
    → 1 ≤ length passed → has_lf passed ≡ false → after ≡ [] → Appends between holds (passed ++ 10 ∷ [])
    → HasSent had has held holds made makes [] (count + 1) (reads + m.reads)
sent_part {had} {mid} {has} {held} {between} {holds} {after = after} {passed = passed} {count} {reads} p m some cut empty a =
    let all : (ended_lines p.lines ++ passed) ++ after ≡ ended_lines p.lines ++ passed = ap (λ l. (ended_lines p.lines ++ passed) ++ l) empty ∙ append-nil (ended_lines p.lines ++ passed) in
    record {
      input = ended_lines p.lines ++ passed;
      lines = p.lines ++ passed ∷ [];
      cut = cut_more p.lines passed p.cut cut;
      counted = omega (arith, p.counted, length-append p.lines (passed ∷ []));
      consumed = subst (Consumes had has) all (consumed_all p m);
      appended = subst (Appends held holds) (sym (ended_more p.lines passed)) (Appends-trans held between holds (ended_lines p.lines) (passed ++ 10 ∷ []) p.appended a);
      split = lines-ended_part p.lines passed p.cut cut some ∙ sym (append-nil (p.lines ++ passed ∷ []));
      told = told_all p m;
      least = subst (λ l. reads + m.reads ≤ length l + 1) all (least_all p m);
    }

-- a line was sent, and a last one without an LF with one
pub sent_more : {had mid has held between holds : Option (List ℕ)} {made much makes : Option ℕ} {before after passed : List ℕ} {count reads left left' : ℕ}
    → (end : Passed) → end ≢ Nothing → (p : HasPassed had mid held between made much before count reads) (m : Moves mid has much makes before after left left' (slack_of end) passed)
    → EndsAs end passed after has → Appends between holds (sent_of end passed) → HasSent had has held holds made makes (lines_of after) (count + 1) (reads + m.reads)
sent_more Line other p m line a = sent_lines (passes_line p m line a)
sent_more {had} {mid} {has} {held} {between} {holds} {made} {much} {makes} {count = count} {reads} Part other p m (some, cut, empty, end) a =
    subst (λ l. HasSent had has held holds made makes (lines_of l) (count + 1) (reads + m.reads)) (sym empty) (sent_part p m some cut empty a)
sent_more Nothing other p m ended a = absurd (other refl)

-- the input ended
pub sent_all : {had mid has held between holds : Option (List ℕ)} {made much makes : Option ℕ} {before after passed : List ℕ} {count reads left left' : ℕ}
    → (p : HasPassed had mid held between made much before count reads) (m : Moves mid has much makes before after left left' 1 passed)
    → passed ≡ [] → after ≡ [] → Appends between holds passed → HasSent had has held holds made makes [] count (reads + m.reads)
sent_all {had} {mid} {has} {held} {between} {holds} {after = after} {passed = passed} {count} {reads} p m none empty a =
    let same : ended_lines p.lines ++ passed ≡ ended_lines p.lines = ap (λ l. ended_lines p.lines ++ l) none ∙ append-nil (ended_lines p.lines) in
    let all : (ended_lines p.lines ++ passed) ++ after ≡ ended_lines p.lines ++ [] = ap (λ l. l ++ after) same ∙ ap (λ l. ended_lines p.lines ++ l) empty in
    record {
      input = ended_lines p.lines ++ [];
      lines = p.lines;
      cut = p.cut;
      counted = p.counted;
      consumed = subst (Consumes had has) all (consumed_all p m);
      appended = subst (Appends held holds) same (Appends-trans held between holds (ended_lines p.lines) passed p.appended a);
      split = lines-ended p.lines [] p.cut;
      told = told_all p m;
      least = subst (λ l. reads + m.reads ≤ length l + 1) all (least_all p m);
    }

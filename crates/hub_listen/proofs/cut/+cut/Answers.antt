use Rattle.std.proofs.Common.{◌∙◌, ◌++◌, [], ◌∷◌, map, take, sym, ap, subst}
use Rattle.std.proofs.lemmas.List.{take_more}
use Rattle.regex_hir.specs.Meaning.{meaning}
use Rattle.regex_hir.proofs.MeaningLemmas.{meaning-Bytes, meaning-Chars, meaning-Repetition, meaning-Capture, meaning-Concat, meaning-Alternation}
use Rattle.hub_listen.specs.Letters.{AreSameInLetters, none_left}
use Rattle.hub_listen.proofs.Cutting.{same_of_eq, same_bytes, same_chars, same_repeat, same_group, same_cat_all, same_alt_all, cut_more}
use Rattle.hub_listen.proofs.cut.+cut.Goals as goal

pub cut-returns-in_ok-letters_of-in-Bytes : goal.cut-returns-in_ok-letters_of-in-Bytes
cut-returns-in_ok-letters_of-in-Bytes t c =
    same_of_eq _ _ _ _ (meaning-Bytes _) (ap meaning c.in-Bytes.is ∙ meaning-Bytes _) (same_bytes _ _ c.in_ok-letters_of-in-Bytes.ensures)

pub cut-returns-in_ok-letters_of-in-Chars : goal.cut-returns-in_ok-letters_of-in-Chars
cut-returns-in_ok-letters_of-in-Chars t c =
    same_of_eq _ _ _ _ (meaning-Chars _) (ap meaning c.in-Chars.is ∙ meaning-Chars _) (same_chars _ _ c.in_ok-letters_of-in-Chars.ensures)

pub cut-returns-in_ok-new-in-Repetition : goal.cut-returns-in_ok-new-in-Repetition
cut-returns-in_ok-new-in-Repetition t c =
    same_of_eq _ _ _ _ (meaning-Repetition _ _ _ _) (ap meaning c.in-Repetition.is ∙ meaning-Repetition _ _ _ _)
    (same_repeat _ _ _ _ _
    (same_of_eq _ _ _ _ (ap meaning c.in_ok-new-in-Repetition.ensures.ok) (ap meaning (sym c.deref-in-Repetition.ensures)) c.in_ok-cut-in-Repetition.ensures))

pub cut-returns-in_ok-new-in-Capture : goal.cut-returns-in_ok-new-in-Capture
cut-returns-in_ok-new-in-Capture t c =
    same_of_eq _ _ _ _ (meaning-Capture _ _) (ap meaning c.in-Capture.is ∙ meaning-Capture _ _)
    (same_group _ _
    (same_of_eq _ _ _ _ (ap meaning c.in_ok-new-in-Capture.ensures.ok) (ap meaning (sym c.deref-in-Capture.ensures)) c.in_ok-cut-in-Capture.ensures) _)

pub cut-returns-in_ok-cut_all-in-Concat : goal.cut-returns-in_ok-cut_all-in-Concat
cut-returns-in_ok-cut_all-in-Concat t c =
    same_of_eq _ _ _ _ (meaning-Concat _) (ap meaning c.in-Concat.is ∙ meaning-Concat _)
    (same_cat_all _ _ (subst (λ l. AreSameInLetters (map meaning c.in_ok-cut_all-in-Concat.field-0.items) (map meaning l)) c.deref-in-Concat.ensures.value c.in_ok-cut_all-in-Concat.ensures))

pub cut-returns-in_ok-cut_all-in-Alternation : goal.cut-returns-in_ok-cut_all-in-Alternation
cut-returns-in_ok-cut_all-in-Alternation t c =
    same_of_eq _ _ _ _ (meaning-Alternation _) (ap meaning c.in-Alternation.is ∙ meaning-Alternation _)
    (same_alt_all _ _ (subst (λ l. AreSameInLetters (map meaning c.in_ok-cut_all-in-Alternation.field-0.items) (map meaning l))
    c.deref-in-Alternation.ensures.value c.in_ok-cut_all-in-Alternation.ensures))

pub cut_all-loop-i-init : goal.cut_all-loop-i-init
cut_all-loop-i-init t c = subst (λ l. AreSameInLetters (map meaning l) _) (sym c.in_ok-all.ensures.items) none_left

pub cut_all-loop-i-preserved : goal.cut_all-loop-i-preserved
cut_all-loop-i-preserved t c =
    cut_more _ _ c.args.subs.now _ _ c.loop-i.i c.in_ok-push.ensures.items
    (take_more c.args.subs.now c.loop-i.i _ c.loop-i-test.true ∙ ap (λ x. take c.loop-i.i c.args.subs.now ++ x ∷ []) (sym c.index-subs-i.is))
    c.in_ok-cut.ensures c.loop-i.invariant

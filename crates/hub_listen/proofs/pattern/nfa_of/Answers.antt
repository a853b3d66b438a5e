use Rattle.std.proofs.Common.{◌∙◌, sym}
use Rattle.hub_listen.proofs.Cutting.{ascii_of}
use Rattle.std.proofs.lemmas.Result.{err_from_is_err_and}
use Rattle.hub_listen.proofs.Patterns.{reads-finds, reads-pattern, reads-refused, compiled-refused}
use Rattle.hub_listen.proofs.Found.{find_str-finds_by, find_str_same}
use Rattle.hub_listen.proofs.pattern.nfa_of.Goals as goal

pub returns-clause-searches : goal.returns-clause-searches
returns-clause-searches c = ∣ (λ text letters.
    sym (reads-finds _ _ _ _ c.in_ok-hir.ensures.ok c.default.ensures text (ascii_of text letters))
    ∙ sym (find_str_same _ _ c.in_ok-letters.ensures text letters)
    ∙ find_str-finds_by c.in_ok-compile.field-0 _ c.in_ok-compile.ensures.matches text (ascii_of text letters)) ∣₁

pub returns-clause-read : goal.returns-clause-read
returns-clause-read c = reads-pattern _ _ _ _ c.in_ok-hir.ensures.ok c.default.ensures

pub returns-in_err-hir-clause-refused : goal.returns-in_err-hir-clause-refused
returns-in_err-hir-clause-refused c = let p = err_from_is_err_and c.from_residual.result c.from_residual.ensures.1 in
    rw p.1 (reads-refused _ _ _ p.0 c.in_err-hir.ensures.err c.default.ensures p.2)

pub returns-in_default-clause-refused : goal.returns-in_default-clause-refused
returns-in_default-clause-refused c = reads-pattern _ _ _ _ c.in_ok-hir.ensures.ok c.default.ensures

pub returns-in_err-compile-clause-refused : goal.returns-in_err-compile-clause-refused
returns-in_err-compile-clause-refused c = let p = err_from_is_err_and c.from_residual-in_err-compile.result c.from_residual-in_err-compile.ensures.1 in
    rw (p.1, p.2) (compiled-refused _ _ (reads-pattern _ _ _ _ c.in_ok-hir.ensures.ok c.default.ensures))

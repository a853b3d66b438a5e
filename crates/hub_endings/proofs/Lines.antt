-- The lines of sessions that stopped, one after another.
use Rattle.std.proofs.Common.{◌≡◌, ℕ, ◌+◌, ◌<◌, ◌≤◌, ◌∙◌, List, ◌++◌, suc, length, drop, get_or, Option, Result, Ok, Err, OnOk, ap, sym, arith}
use Rattle.std.proofs.KnownBytes.{Appends-trans}
use Rattle.std.proofs.lemmas.List.{append_assoc, append-nil, drop_all, drop_more}
use Rattle.std.specs.Io.KnownBytes.{Appends}
use Rattle.std.specs.Result.{result_and}
use Rattle.hub_io.specs.declared.fault.FrontError.{FrontError}
use Rattle.hub_endings.specs.Faults.{session_line, session_lines}

-- the line of the next session is the first of those that are left
pub next_line : (all lines : List ℕ) (results : List (Result ℕ FrontError)) (at : ℕ) (d : Result ℕ FrontError) → at < length results
    → lines ++ session_lines (at + 1) (drop at results) ≡ all
    → (lines ++ session_line (at + 1) (get_or results at d)) ++ session_lines (at + 1 + 1) (drop (at + 1) results) ≡ all
next_line all lines results at d lt e =
    let line = session_line (at + 1) (get_or results at d) in
    let others = λ (n : ℕ). session_lines n (drop (at + 1) results) in
    let next : at + 1 + 1 ≡ suc (at + 1) = omega arith in
    append_assoc lines line (others (at + 1 + 1))
    ∙ ap (λ n. lines ++ (line ++ others n)) next
    ∙ ap (λ rs. lines ++ session_lines (at + 1) rs) (sym (drop_more results at d lt))
    ∙ e

-- behind the last session, all lines are there
pub no_line : (all lines : List ℕ) (results : List (Result ℕ FrontError)) (at : ℕ) → length results ≤ at
    → lines ++ session_lines (at + 1) (drop at results) ≡ all → lines ≡ all
no_line all lines results at le e =
    sym (append-nil lines) ∙ ap (λ rs. lines ++ session_lines (at + 1) rs) (sym (drop_all at results le)) ∙ e

-- two writes, one after the other
pub both_written : {E : Type 0} (a b c : Option (List ℕ)) (xs ys : List ℕ) (one other : Result (Unit {0}) E)
    → OnOk one (Appends a b xs) → OnOk other (Appends b c ys) → OnOk (result_and one other) (Appends a c (xs ++ ys))
both_written a b c xs ys (Ok u) (Ok v) p q = Appends-trans a b c xs ys p q
both_written a b c xs ys (Ok u) (Err e) p q = tt
both_written a b c xs ys (Err e) other p q = tt

-- What holds at each moment, also while a seat has the lock.
use Rattle.std.proofs.Common.{◌≡◌, ℕ, ◌<◌, ◌≤◌, List, length, get_or, Bool, true, false, Some, sym, ap, ◌∙◌, ⊎_elim, arith}
use Rattle.std.proofs.lemmas.Bool.{cases_lt}
use Rattle.hub_letters.specs.declared.flags.Flags.{Flags}
use Rattle.hub_letters.specs.Flags.{flags_of, digit, code_of}
use Rattle.hub_record.specs.World.{letters}
use Rattle.hub_fifodir.specs.Events.{packed_word, is_closed, front_word}
use Rattle.hub_fifodir.specs.Rule.{cursor_of, cursor_if}
use Rattle.hub_fifodir.specs.Laws.{HoldKeepsAllAlways}
use Rattle.hub_fifodir.proofs.RuleLaws.{ticket_at}

digit_small : (b : Bool) → digit b ≤ 1
digit_small true = omega arith
digit_small false = omega arith

code_small : (f : Flags) → code_of f ≤ 15
code_small f =
    let up = digit_small f.up in let settled = digit_small f.settled in let supervised = digit_small f.supervised in let failed = digit_small f.failed in omega arith

-- two front words that are the same show the same number
number_is : (n m : ℕ) (c d : Bool) (f g : Flags) → packed_word n c f ≡ packed_word m d g → n ≤ m
number_is n m c d f g same =
    let a = digit_small c in let b = digit_small d in let k = code_small f in let l = code_small g in
    ⊎_elim (λ (above : m < n). absurd (omega arith)) (λ (le : n ≤ m). le) (cases_lt m n)

pub hold_keeps_all_always : HoldKeepsAllAlways
hold_keeps_all_always rules s j t number closed flags r hold h stays shown =
    let at : cursor_of r.a.book.cursors t.id ≡ Some t.next = (ticket_at rules s r j t h).cursor ∙ ap (λ g. cursor_if g t.next) stays in
    let most = r.pending hold t.id t.next at in
    let word : packed_word number closed flags ≡ front_word r.a.log r.a.mark = sym shown ∙ ap (λ (l : List ℕ). get_or l 0 0) r.words_are in
    let within = number_is number (length r.a.log) closed (is_closed r.a.mark) flags (flags_of (letters r.a.log)) word in
    omega arith

use Rattle.std.proofs.Common.{◌≡◌, drop}
use Rattle.hub_commands.specs.Hints.{hint_in}
use Rattle.hub_commands.proofs.hinting.hint_in.Given as goal

-- the hint is that of the forms that are left
abbrev pub invariant-loop-form : goal.invariant-loop-form
invariant-loop-form l = hint_in (λ form. form.0.now) (λ form. form.1.now) l.forms l.word ≡ hint_in (λ form. form.0.now) (λ form. form.1.now) (drop l.form-index l.forms) l.word

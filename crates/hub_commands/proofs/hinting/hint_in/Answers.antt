use Rattle.std.proofs.Common.{◌≡◌, ℕ, ◌+◌, ◌<◌, List, length, get_or, drop, if◌then◌else◌, true, false, sym, ap, ◌∙◌}
use Rattle.std.proofs.lemmas.List.{at_drop_all, at_drop_more}
use Rattle.std.specs.Str.{bytes_eq}
use Rattle.hub_commands.specs.Hints.{hint_in}
use Rattle.hub_commands.proofs.hinting.hint_in.Goals as goal

-- the next form is the one, or the hint is that of those behind it
here : {Form : Type 0} (named hinted : Form → List ℕ) (forms : List Form) (word : List ℕ) (i : ℕ) (d : Form) → i < length forms
    → hint_in named hinted forms word ≡ hint_in named hinted (drop i forms) word
    → hint_in named hinted forms word ≡ (if bytes_eq (named (get_or forms i d)) word then hinted (get_or forms i d) else hint_in named hinted (drop (i + 1) forms) word)
here named hinted forms word i d below so_far = so_far ∙ at_drop_more (λ it. hint_in named hinted it word) forms i d below

found : {Form : Type 0} (named hinted : Form → List ℕ) (forms : List Form) (word : List ℕ) (i : ℕ) (d : Form) → i < length forms
    → hint_in named hinted forms word ≡ hint_in named hinted (drop i forms) word → bytes_eq (named (get_or forms i d)) word ≡ true
    → hinted (get_or forms i d) ≡ hint_in named hinted forms word
found named hinted forms word i d below so_far hit =
    sym (here named hinted forms word i d below so_far ∙ ap (λ it. if it then hinted (get_or forms i d) else hint_in named hinted (drop (i + 1) forms) word) hit)

behind : {Form : Type 0} (named hinted : Form → List ℕ) (forms : List Form) (word : List ℕ) (i : ℕ) (d : Form) → i < length forms
    → hint_in named hinted forms word ≡ hint_in named hinted (drop i forms) word → bytes_eq (named (get_or forms i d)) word ≡ false
    → hint_in named hinted forms word ≡ hint_in named hinted (drop (i + 1) forms) word
behind named hinted forms word i d below so_far miss =
    here named hinted forms word i d below so_far ∙ ap (λ it. if it then hinted (get_or forms i d) else hint_in named hinted (drop (i + 1) forms) word) miss

pub returns-then-eq : goal.returns-then-eq
returns-then-eq c = found (λ form. form.0.now) (λ form. form.1.now) c.args.forms.now c.args.word.now c.loop-form.form-index _ c.loop-form-test.true c.loop-form.invariant (sym c.if-eq.ensures)

pub loop-form-preserved : goal.loop-form-preserved
loop-form-preserved c = behind (λ form. form.0.now) (λ form. form.1.now) c.args.forms.now c.args.word.now c.loop-form.form-index _ c.loop-form-test.true c.loop-form.invariant (sym c.if-eq.ensures)

pub returns : goal.returns
returns c = sym (c.loop-form.invariant ∙ at_drop_all (λ it. hint_in (λ form. form.0.now) (λ form. form.1.now) it c.args.word.now) c.args.forms.now c.loop-form.form-index c.loop-form-test.false)

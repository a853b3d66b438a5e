-- A tally with one more watch.
use Rattle.std.proofs.Common.{◌≡◌, List, [], ◌∷◌, ◌++◌, Bool, ◌&&◌, ◌||◌, sym, ap, ◌∙◌}
use Rattle.std.proofs.Math.Bool.{and-true, or-false}
use Rattle.std.specs.List.{list_all, list_any}
use Rattle.std.proofs.lemmas.List.Folds.{list_all-append, list_any-append}
use Rattle.hub_letters.specs.declared.span.Span.{Span}
use Rattle.hub_letters.specs.declared.span.Span.TheVariants.{All, Any}
use Rattle.hub_wait.specs.Watching.{Watching, is_met_at, is_lost_at}
use Rattle.hub_wait.specs.Verdicts.{Tallied, tally_of, is_bar}

list_all-push : {X : Type 0} (p : X → Bool) (xs : List X) (x : X) → list_all p (xs ++ x ∷ []) ≡ (list_all p xs && p x)
list_all-push p xs x = list_all-append p xs (x ∷ []) ∙ ap (λ b. list_all p xs && b) (and-true (p x))

list_any-push : {X : Type 0} (p : X → Bool) (xs : List X) (x : X) → list_any p (xs ++ x ∷ []) ≡ (list_any p xs || p x)
list_any-push p xs x = list_any-append p xs (x ∷ []) ∙ ap (λ b. list_any p xs || b) (or-false (p x))

pub all-push : (span : Span) (watches : List Watching) (t : Tallied) (w : Watching) → t.span ≡ All → t ≡ tally_of span watches
    → record { span = t.span; yes = t.yes && is_met_at w; never = t.never || is_bar w } ≡ tally_of span (watches ++ w ∷ [])
unfolding tally_of
all-push All ws t w is e =
    ap (λ z. record { span = z.span; yes = z.yes && is_met_at w; never = z.never || is_bar w }) e
    ∙ (λ i. record { span = All; yes = sym (list_all-push is_met_at ws w) i; never = sym (list_any-push is_bar ws w) i })
all-push Any ws t w is e = absurd (let k : Any ≡ All = sym (ap (λ z. z.span) e) ∙ is in cc)

pub any-push : (span : Span) (watches : List Watching) (t : Tallied) (w : Watching) → t.span ≡ Any → t ≡ tally_of span watches
    → record { span = t.span; yes = t.yes || is_met_at w; never = t.never && is_lost_at w } ≡ tally_of span (watches ++ w ∷ [])
unfolding tally_of
any-push Any ws t w is e =
    ap (λ z. record { span = z.span; yes = z.yes || is_met_at w; never = z.never && is_lost_at w }) e
    ∙ (λ i. record { span = Any; yes = sym (list_any-push is_met_at ws w) i; never = sym (list_all-push is_lost_at ws w) i })
any-push All ws t w is e = absurd (let k : All ≡ Any = sym (ap (λ z. z.span) e) ∙ is in cc)

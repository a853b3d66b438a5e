use Rattle.std.proofs.Common.{◌≡◌, ℕ, List, [], ◌∷◌, ◌++◌, false, Option, None, Some, is_some, refl, sym, subst, ap, ◌∙◌, true≢false}
use Rattle.std.proofs.lemmas.List.{map-append}
use Rattle.std.specs.Map.{keys_of}
use Rattle.std.specs.Str.{bytes_eq}
use Rattle.indexmap.specs.IndexMap.{get, keys}
use Rattle.indexmap.proofs.CallerLemmas.{insert_entry-new}
use Rattle.hub_fifodir.specs.Passes.{kind_of, limits_of}
use Rattle.hub_names.specs.declared.hub.Made.{Made}
use Rattle.hub_names.proofs.hub.named.Named.make.Goals as goal

none_of : {X : Type 0} (o : Option X) → is_some o ≡ false → o ≡ None
none_of None e = refl
none_of (Some x) e = absurd (true≢false e)

pub returns-in-Ok-insert-clause-ok : goal.returns-in-Ok-insert-clause-ok
returns-in-Ok-insert-clause-ok g c =
    let made_now : Made = record { dir = c.in-Ok.dir; notifies = c.args.notifies } in
    let put = c.in-Ok-insert.ensures.updates in
    let made = c.in_ok-fifodir.ensures in (
      made_now,
      subst (λ (name : List ℕ). get bytes_eq c.insert.new.self name ≡ Some made_now) c.in_ok-key.ensures put.1,
      record { kind_is = ap kind_of c.in-Ok.ensures.ok ∙ made.0; limits_are = ap limits_of c.in-Ok.ensures.ok ∙ made.1; notifies_is = refl },
    )

pub returns-in-Ok-insert-clause-last : goal.returns-in-Ok-insert-clause-last
returns-in-Ok-insert-clause-last g c =
    let is = c.in_ok-key.ensures in
    let free : get bytes_eq c.args.self.now.fifodirs c.in_ok-key.key ≡ None = none_of (get bytes_eq c.args.self.now.fifodirs c.in_ok-key.key)
    (ap (λ (name : List ℕ). is_some (get bytes_eq c.args.self.now.fifodirs name)) is ∙ sym c.contains_key.ensures ∙ c.if-contains_key.false) in
    ap keys_of (c.in-Ok-insert.ensures.entries ∙ insert_entry-new bytes_eq c.args.self.now.fifodirs c.in_ok-key.key _ free)
    ∙ map-append (λ (e : List ℕ × Made). e.0) c.args.self.now.fifodirs.entries _
    ∙ ap (λ (name : List ℕ). keys c.args.self.now.fifodirs ++ name ∷ []) is

use Rattle.std.proofs.Common.{◌++◌, ◌∷◌, [], ℕ, List, is_some, refl, ap, sym, ◌∙◌, arith}
use Rattle.std.specs.Map.{lookup}
use Rattle.std.specs.Str.{bytes_eq}
use Rattle.indexmap.proofs.CallerLemmas.{insert_entry-new}
use Rattle.hub_local.proofs.Asking.{answers_from, answers_here, none_of, same_parts, represents_next}
use Rattle.hub_local.proofs.AskingFifodirs.{make_exists, make_many, make_lacks, make_done}
use Rattle.hub_local.proofs.local_desk.LocalDesk.make.Goals as goal

pub returns-then-contains_key : goal.returns-then-contains_key
returns-then-contains_key c = answers_here c.self.view_is (make_exists _ c.args.name.now _ _ _ (sym c.contains_key.ensures ∙ c.if-contains_key.true))

pub returns-then-len-ge-MOST_NAMES : goal.returns-then-len-ge-MOST_NAMES
returns-then-len-ge-MOST_NAMES c =
    answers_here c.self.view_is (make_many _ c.args.name.now _ _ _ (sym c.contains_key.ensures ∙ c.if-contains_key.false) (let n = c.len.ensures.len in let m = c.if-len-ge-MOST_NAMES.true in omega arith))

pub returns-in_default : goal.returns-in_default
returns-in_default c =
    answers_here c.self.view_is (make_lacks _ c.args.name.now _ _ _ (sym c.contains_key.ensures ∙ c.if-contains_key.false) (let n = c.len.ensures.len in let m = c.if-len-ge-MOST_NAMES.false in omega arith) _ refl)

pub returns-in_default-new : goal.returns-in_default-new
returns-in_default-new c =
    answers_here c.self.view_is (make_lacks _ c.args.name.now _ _ _ (sym c.contains_key.ensures ∙ c.if-contains_key.false) (let n = c.len.ensures.len in let m = c.if-len-ge-MOST_NAMES.false in omega arith) _ refl)

pub returns-in-Ok-insert : goal.returns-in-Ok-insert
returns-in-Ok-insert c =
    let absent = sym c.contains_key.ensures ∙ c.if-contains_key.false in
    let named = c.in-Ok.ensures in
    answers_from c.self.view_is (make_done _ c.args.name.now _ _ _ absent (let n = c.len.ensures.len in let m = c.if-len-ge-MOST_NAMES.false in omega arith) _ c.in-Ok-new.kept c.in-Ok-new.ensures
    (c.in-Ok-insert.ensures.entries
    ∙ insert_entry-new bytes_eq c.self.inside.fifodirs c.in-Ok.key _ (none_of _ (ap (λ (k : List ℕ). is_some (lookup (bytes_eq k) c.self.inside.fifodirs.entries)) named ∙ absent))
    ∙ ap (λ (k : List ℕ). c.self.inside.fifodirs.entries ++ (k, record { kept = c.in-Ok-new.kept; reports = c.args.reports }) ∷ []) named) refl refl refl)

pub returns : goal.returns
returns c =
    answers_from c.self.view_is (make_lacks _ c.args.name.now _ _ _ (sym c.contains_key.ensures ∙ c.if-contains_key.false) (let n = c.len.ensures.len in let m = c.if-len-ge-MOST_NAMES.false in omega arith) _ (same_parts _ _ c.in-Err.ensures.err refl refl refl))

pub invariant_of-self : goal.invariant_of-self
invariant_of-self c = represents_next _ c.args.self.now _ _ _ _ _ _ c.self.view_is (returns-in-Ok-insert c) c.self.invariant

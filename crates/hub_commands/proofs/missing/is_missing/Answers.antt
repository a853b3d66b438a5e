use Rattle.std.proofs.Common.{◌≢◌, ◌<◌, ℕ, List, [], length, Bool, true, false, All, MatchBool, rules, tests}
use Rattle.std.specs.List.{AllWithin, HoldsAt}
use Rattle.std.proofs.lemmas.Iterator.{cases_from_all}
use Rattle.std.proofs.lemmas.Iterator.Splits.{YieldsList-from_slice_split}
use Rattle.std.proofs.lemmas.List.Elements.{All-from_all_within}
use Rattle.hub_commands.proofs.missing.is_missing.Goals as goal

others_by_cases : (name : List ℕ) (r : Bool) (fields : List (List ℕ)) → MatchBool r (AllWithin (λ one. one ≢ name) fields 0 (length fields)) ((k : ℕ) × (k < length fields) × HoldsAt (λ one. (one ≢ name) → ⊥) fields k)
    → MatchBool r (All (λ one. one ≢ name) fields) (All (λ one. one ≢ name) fields → ⊥)
others_by_cases name true fields within = All-from_all_within (λ one. one ≢ name) fields within
others_by_cases name false fields (k, below, other) = λ each. other [] (each k [] below)

pub returns : goal.returns
returns c =
    others_by_cases c.args.name.now _ _ (cases_from_all _ _ _ (λ one. one ≢ c.args.name.now) (λ one. (one ≢ c.args.name.now) → ⊥) c.all.ensures.ran
    (YieldsList-from_slice_split _ _ c.args.there.now c.split.ensures.rest c.split.ensures.done c.split.ensures.closure (λ x r q k. search (rules, tests)))
    (λ x q k. search (rules, tests)) (λ x q k. search (rules, tests)))

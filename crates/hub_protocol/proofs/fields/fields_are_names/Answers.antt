use Rattle.std.proofs.Common.{◌≡◌, ◌<◌, ℕ, List, [], length, get_or, Bool, true, false, All, MatchBool, rules, tests}
use Rattle.std.specs.List.{AllWithin, HoldsAt}
use Rattle.std.proofs.lemmas.Iterator.{cases_from_all}
use Rattle.std.proofs.lemmas.Iterator.Splits.{YieldsList-from_slice_split}
use Rattle.std.proofs.lemmas.List.Elements.{All-from_all_within}
use Rattle.hub_requests.specs.Names.{is_name}
use Rattle.hub_protocol.specs.Spelling.{IsName}
use Rattle.hub_protocol.proofs.fields.fields_are_names.Goals as goal

names_by_cases : (r : Bool) (fields : List (List ℕ)) → MatchBool r (AllWithin IsName fields 0 (length fields)) ((k : ℕ) × (k < length fields) × HoldsAt (λ text. is_name text ≡ false) fields k)
    → MatchBool r (All IsName fields) (All IsName fields → ⊥)
names_by_cases true fields within = All-from_all_within IsName fields within
names_by_cases false fields (k, below, other) = λ named.
    let yes : is_name (get_or fields k []) ≡ true = named k [] below in
    let no : is_name (get_or fields k []) ≡ false = other [] in
    cc

pub returns : goal.returns
returns c =
    names_by_cases _ _ (cases_from_all _ _ _ IsName (λ text. is_name text ≡ false) c.all.ensures.ran
    (YieldsList-from_slice_split _ _ c.args.text.now c.split.ensures.rest c.split.ensures.done c.split.ensures.closure (λ x r q k. search (rules, tests)))
    (λ x q k. search (rules, tests)) (λ x q k. search (rules, tests)))

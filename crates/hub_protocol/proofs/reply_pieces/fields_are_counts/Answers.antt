use Rattle.std.proofs.Common.{◌<◌, ℕ, List, [], length, Bool, true, false, All, MatchBool, rules, tests}
use Rattle.std.specs.List.{AllWithin, HoldsAt}
use Rattle.std.proofs.lemmas.Iterator.{cases_from_all}
use Rattle.std.proofs.lemmas.Iterator.Splits.{YieldsList-from_slice_split}
use Rattle.std.proofs.lemmas.List.Elements.{All-from_all_within}
use Rattle.hub_protocol.specs.ReplyLines.{IsCountText}
use Rattle.hub_protocol.proofs.reply_pieces.fields_are_counts.Goals as goal

counts_by_cases : (r : Bool) (fields : List (List ℕ)) → MatchBool r (AllWithin IsCountText fields 0 (length fields)) ((k : ℕ) × (k < length fields) × HoldsAt (λ text. IsCountText text → ⊥) fields k)
    → MatchBool r (All IsCountText fields) (All IsCountText fields → ⊥)
counts_by_cases true fields within = All-from_all_within IsCountText fields within
counts_by_cases false fields (k, below, other) = λ each. other [] (each k [] below)

pub returns : goal.returns
returns c =
    counts_by_cases _ _ (cases_from_all _ _ _ IsCountText (λ text. IsCountText text → ⊥) c.all.ensures.ran
    (YieldsList-from_slice_split _ _ c.args.text.now c.split.ensures.rest c.split.ensures.done c.split.ensures.closure (λ x r q k. search (rules, tests)))
    (λ x q k. search (rules, tests)) (λ x q k. search (rules, tests)))

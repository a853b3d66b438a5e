use Rattle.std.proofs.Common.{ℕ, ◌<◌, ◌^◌, Some, None, arith}
use Rattle.std.proofs.lemmas.Str.Pattern.{split_parts}
use Rattle.std.specs.Str.Parse.{digits_value}
use Rattle.hub_ask.proofs.Durations.{alone_too_large, both_too_large, if_none, same_fraction}
use Rattle.hub_ask.proofs.duration.thousandths_of.Goals as goal

pub returns-in_err-behind-in-Some-clause-none : goal.returns-in_err-behind-in-Some-clause-none
returns-in_err-behind-in-Some-clause-none c =
    let parts = split_parts 46 c.args.number.now (Some (c.in-Some.whole, c.in-Some.fraction)) c.in-Some.ensures.cases (omega arith) in
    rw c.from_residual.ensures (both_too_large c.args.number.now c.in-Some.whole.now c.in-Some.fraction.now parts.0 parts.1
    (λ numeral behind written. let over = c.in_err-behind-in-Some.ensures.none behind written in omega (arith, over)))

pub returns-in_err-number_of-in-Some-clause-none : goal.returns-in_err-number_of-in-Some-clause-none
returns-in_err-number_of-in-Some-clause-none c =
    let parts = split_parts 46 c.args.number.now (Some (c.in-Some.whole, c.in-Some.fraction)) c.in-Some.ensures.cases (omega arith) in
    rw c.from_residual-in_err-number_of-in-Some.ensures (both_too_large c.args.number.now c.in-Some.whole.now c.in-Some.fraction.now parts.0 parts.1
    (λ numeral behind written.
    let over : digits_value 10 c.in-Some.whole.now < 2 ^ 64 → ⊥ = λ few. c.in_err-number_of-in-Some.ensures (numeral, few) in omega (arith, over)))

pub returns-in_err-front-in-Some-clause-none : goal.returns-in_err-front-in-Some-clause-none
returns-in_err-front-in-Some-clause-none c =
    let parts = split_parts 46 c.args.number.now (Some (c.in-Some.whole, c.in-Some.fraction)) c.in-Some.ensures.cases (omega arith) in
    rw c.from_residual-in_err-front-in-Some.ensures (both_too_large c.args.number.now c.in-Some.whole.now c.in-Some.fraction.now parts.0 parts.1
    (λ numeral behind written. let is = c.in_ok-number_of-in-Some.ensures.1 in let over = c.in_err-front-in-Some.ensures in omega (arith, is, over)))

pub returns-in_err-number_of-in-None-clause-none : goal.returns-in_err-number_of-in-None-clause-none
returns-in_err-number_of-in-None-clause-none c =
    rw c.from_residual-in_err-number_of-in-None.ensures (alone_too_large c.args.number.now (split_parts 46 c.args.number.now None c.in-None.ensures.cases (omega arith))
    (λ numeral. let over : digits_value 10 c.args.number.now < 2 ^ 64 → ⊥ = λ few. c.in_err-number_of-in-None.ensures (numeral, few) in omega (arith, over)))

pub returns-in_ok-front-in-Some-clause-none : goal.returns-in_ok-front-in-Some-clause-none
returns-in_ok-front-in-Some-clause-none c =
    let parts = split_parts 46 c.args.number.now (Some (c.in-Some.whole, c.in-Some.fraction)) c.in-Some.ensures.cases (omega arith) in
    if_none c.checked_add.result _ _ _ c.checked_add.ensures (λ over. both_too_large c.args.number.now c.in-Some.whole.now c.in-Some.fraction.now parts.0 parts.1
    (λ numeral behind written.
    let same = same_fraction c.in-Some.fraction.now behind c.in_ok-behind-in-Some.behind written c.in_ok-behind-in-Some.ensures.some in
    let is = c.in_ok-number_of-in-Some.ensures.1 in
    let front = c.in_ok-front-in-Some.ensures.1 in
    omega (arith, over, same, is, front)))

pub returns-in_ok-number_of-in-None-clause-none : goal.returns-in_ok-number_of-in-None-clause-none
returns-in_ok-number_of-in-None-clause-none c =
    if_none c.checked_mul-in-None.result _ _ _ c.checked_mul-in-None.ensures
    (λ over. alone_too_large c.args.number.now (split_parts 46 c.args.number.now None c.in-None.ensures.cases (omega arith))
    (λ numeral. let is = c.in_ok-number_of-in-None.ensures.1 in omega (arith, over, is)))

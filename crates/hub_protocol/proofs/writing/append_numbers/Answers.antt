use Rattle.std.proofs.Common.{◌≡◌, ◌++◌, ◌+◌, ◌∷◌, length, take, get_or, None, ap, length-append, rules, arith}
use Rattle.hub_requests.specs.Texts.{number_or_dash, numbers_text}
use Rattle.hub_requests.proofs.NumbersText.{numbers_text-more, length-numbers_text-take}
use Rattle.hub_protocol.proofs.Appending.{next_appended, refused_there}
use Rattle.hub_protocol.proofs.writing.append_numbers.Goals as goal

pub returns-in_err-append_number_or_dash : goal.returns-in_err-append_number_or_dash
returns-in_err-append_number_or_dash c =
    let numbers = c.args.numbers.now in
    let it = c.loop-number in
    refused_there c.args.out.now it.out c.append_number_or_dash.new.out c.from_residual.result _ (numbers_text (take it.number-index numbers)) _ _ (numbers_text numbers)
    it.invariant.appended it.invariant.grown it.invariant.capacity
    (numbers_text-more numbers it.number-index None c.loop-number-test.true) (length-numbers_text-take numbers (it.number-index + 1)) c.in_err-append_number_or_dash.ensures (search rules)

pub loop-number-preserved : goal.loop-number-preserved
loop-number-preserved c =
    let numbers = c.args.numbers.now in
    let i = c.loop-number.number-index in
    let step = c.in_ok-append_number_or_dash.ensures in
    let so_far = c.loop-number.invariant in
    let whole : c.append_number_or_dash.new.out.items ≡ c.args.out.now.items ++ numbers_text (take (i + 1) numbers) =
    next_appended _ _ (32 ∷ number_or_dash (get_or numbers i None)) _ _ _ so_far.appended (numbers_text-more numbers i None c.loop-number-test.true) step.ok in
    record {
      appended = whole;
      grown = omega (arith, ap length whole, length-append c.args.out.now.items (numbers_text (take (i + 1) numbers)));
      capacity = omega (arith, step.capacity, so_far.capacity);
    }
